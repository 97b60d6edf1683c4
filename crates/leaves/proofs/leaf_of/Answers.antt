-- No top record: no leaf. A second record of the top's priority: a tie, no leaf. Else the top record's leaf. Assumes nothing.
use Rattle.std.specs.Prelude.{Option, Some}
use mathlib.Core.Path.{sym, ap, ◌∙◌}
use Prim.Native.Nat.{ℕ}
use Rattle.leaves.proofs.Contenders.{leaf-none}
use Rattle.leaves.proofs.Walks.{one-leaf, tied-leaf}
use Rattle.leaves.proofs.leaf_of.Goals as goal

pub returns-in_err-i-clause-value : goal.returns-in_err-i-clause-value
returns-in_err-i-clause-value c =
    c.from_residual.ensures ∙ sym (leaf-none c.args.table.words.now c.args.table.legal c.args.s (sym c.in_err-i.ensures.number))

pub returns-in-Some-clause-value : goal.returns-in-Some-clause-value
returns-in-Some-clause-value c =
    tied-leaf c.args.table c.args.s c.in_ok-i.i c.in_ok-i.ensures.table c.in_ok-i.ensures.number c.in-Some.field-0.number c.in-Some.ensures.number

pub returns-in-None-clause-value : goal.returns-in-None-clause-value
returns-in-None-clause-value c =
    ap {B = Option ℕ} Some c.leaf.ensures.0
    ∙ one-leaf c.args.table c.args.s c.in_ok-i.i c.in_ok-i.ensures.table c.in_ok-i.ensures.number c.in-None.ensures.number
