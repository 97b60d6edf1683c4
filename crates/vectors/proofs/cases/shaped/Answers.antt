-- `cases::shaped` meets its contract: the first that differs decides. Assumes nothing.
use Rattle.std.proofs.Common.{◌≡◌, true, false, sym, ◌∙◌, arith}
use lib.Dec.{eqb}
use borrow.Author.Tests.{eq-eqb, ne_eqb, eqb-true}
use Rattle.vectors.specs.Reading.{byte_at}
use Rattle.vectors.specs.Cases.{shaped}
use Rattle.vectors.proofs.cases.shaped.Goals as goal
use Rattle.vectors.proofs.cases.shaped.Goals.{then-count-numbers, else-count-numbers}

pub returns-then-count-parts : goal.returns-then-count-parts
unfolding shaped
returns-then-count-parts c =
    elim c.if-count-numbers.branch [
      | then-count-numbers w ↦
          let second : eqb (byte_at c.args.case.now 2) c.args.parts ≡ true =
          rw (← c.from-parts.ensures) (rw w.count-then-count-numbers.ensures.0 at (sym w.value-is ∙ c.if-count-parts.true)) in
          rw (eq-eqb (byte_at c.args.case.now 1) c.args.numbers (omega arith), second, c.end.ensures.0, c.from-parts.ensures)
      | else-count-numbers w ↦ absurd (w.if-count-numbers.false (eqb-true _ _ (sym w.value-is ∙ c.if-count-parts.true)))
    ]

pub returns-else-count-parts : goal.returns-else-count-parts
unfolding shaped
returns-else-count-parts c =
    elim c.if-count-numbers.branch [
      | then-count-numbers w ↦
          let second : eqb (byte_at c.args.case.now 2) c.args.parts ≡ false =
          rw (← c.from-parts.ensures) (rw w.count-then-count-numbers.ensures.0 at (sym w.value-is ∙ c.if-count-parts.false)) in
          rw (eq-eqb (byte_at c.args.case.now 1) c.args.numbers (omega arith), second) c.if-count-parts.false
      | else-count-numbers w ↦
          rw (ne_eqb (byte_at c.args.case.now 1) c.args.numbers (λ e. w.if-count-numbers.false (c.count.ensures.0 ∙ e))) c.if-count-parts.false
    ]
