-- The text is laid out, or there is none. Assumes nothing.
use Rattle.std.proofs.Common.{ℤ, nat_abs, pos, ap, ◌∙◌, arith}
use lib.Signed.{lt_z}
use mir.Syntax.{w32}
use mir.ValLaws.{to_z-of_z}
use Rattle.angles.proofs.Laid.{in_range_none, in_range-laid}
use Rattle.angles.proofs.write_in_range.Goals as goal

pub returns-then-size-gt-LIMIT : goal.returns-then-size-gt-LIMIT
returns-then-size-gt-LIMIT c =
    let v = c.args.hundredths in
    let size = c.unsigned_abs-size.ensures.value ∙ ap nat_abs (to_z-of_z w32 v c.ranges.hundredths) in
    in_range_none v (omega (arith, size))

pub returns : goal.returns
returns c =
    let v = c.args.hundredths in
    let read = to_z-of_z w32 v c.ranges.hundredths in
    let size = c.unsigned_abs-size.ensures.value ∙ ap nat_abs read in
    in_range-laid v (ap (λ (x : ℤ). lt_z x (pos 0)) read) size (omega arith) c.text-length.ensures
