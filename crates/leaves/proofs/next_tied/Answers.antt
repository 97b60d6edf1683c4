-- The first record of this record's priority, from its next on, if there is one. Assumes nothing.
use Rattle.std.specs.Prelude.{Some, None}
use mathlib.Core.Path.{sym, ap, ◌∙◌}
use Prim.Native.Nat.{ℕ}
use Rattle.legal.specs.Records.{number_of}
use Rattle.leaves.proofs.Walks.{first_on, tied-next}
use Rattle.leaves.proofs.next_tied.Goals as goal

pub returns-in_err-next-clause-number : goal.returns-in_err-next-clause-number
returns-in_err-next-clause-number c =
    ap number_of c.from_residual.ensures ∙ sym (tied-next c.args.i None c.in_err-next.ensures.number c.in_err-next.ensures.table)

pub returns-clause-number : goal.returns-clause-number
returns-clause-number c =
    let next = Some c.in_ok-next.field-0 in
    c.first_with.ensures.number
    ∙ ap (λ (p : ℕ). first_on p next) c.priority.ensures
    ∙ sym (tied-next c.args.i next c.in_ok-next.ensures.number c.in_ok-next.ensures.table)
