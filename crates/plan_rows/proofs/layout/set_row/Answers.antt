-- The three words stand where the row's were.
use Rattle.std.proofs.Common.{◌≡◌, length, ◌+◌, ◌*◌, arith, rules}
use Rattle.lists.proofs.Buffers.{sets-part}
use Rattle.plan_rows.proofs.layout.set_row.Goals as goal

pub returns : goal.returns
returns c =
    let size : length c.args.row ≡ 3 = search rules in
    sets-part c.args.plan.now c.args.row (3 * c.args.s) (3 * c.args.s + 3) c.copy_from_slice.ensures.after (omega (arith, size)) (omega (arith, c.requires))
