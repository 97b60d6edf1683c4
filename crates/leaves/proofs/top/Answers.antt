-- The first record of the chain's highest priority, if it has a record. Assumes nothing.
use Rattle.std.specs.Prelude.{Some, None}
use mathlib.Core.Path.{sym, ap, ◌∙◌}
use Prim.Native.Nat.{ℕ}
use Rattle.legal.specs.Records.{number_of}
use Rattle.leaves.proofs.Walks.{first_on, top-head}
use Rattle.leaves.proofs.top.Goals as goal

pub returns-in_err-head-clause-number : goal.returns-in_err-head-clause-number
returns-in_err-head-clause-number c =
    ap number_of c.from_residual.ensures ∙ sym (top-head c.args.table c.args.s None c.in_err-head.ensures.number c.in_err-head.ensures.table)

pub returns-clause-number : goal.returns-clause-number
returns-clause-number c =
    let head = Some c.in_ok-head.head in
    c.first_with.ensures.number
    ∙ ap (λ (p : ℕ). first_on p head) c.highest.ensures
    ∙ sym (top-head c.args.table c.args.s head c.in_ok-head.ensures.number c.in_ok-head.ensures.table)
