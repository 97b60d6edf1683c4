-- `cases::words` meets its contract. Assumes nothing.
use Rattle.std.proofs.Common.{List, ℕ, length, ◌%◌, sym, ap, ◌∙◌}
use borrow.Author.Tests.{eq-eqb, ne_eqb}
use Rattle.vectors.specs.Cases.{part_of}
use Rattle.vectors.specs.Runs.{how_many, unpacked}
use Rattle.vectors.proofs.cases.words.Goals as goal

pub returns-then-runs-eq0-clause-value : goal.returns-then-runs-eq0-clause-value
unfolding how_many
returns-then-runs-eq0-clause-value c =
    rw (eq-eqb (length (part_of c.args.case.now c.args.k) % 4) 0 (sym (ap (λ (l : List ℕ). length l % 4) c.part-runs.ensures) ∙ c.if-runs-eq0.true), ← c.part-runs.ensures)
    c.unpack.ensures.value

pub returns-then-runs-eq0-clause-out_after : goal.returns-then-runs-eq0-clause-out_after
unfolding unpacked
returns-then-runs-eq0-clause-out_after c =
    rw (eq-eqb (length (part_of c.args.case.now c.args.k) % 4) 0 (sym (ap (λ (l : List ℕ). length l % 4) c.part-runs.ensures) ∙ c.if-runs-eq0.true), ← c.part-runs.ensures)
    c.unpack.ensures.out_after

pub returns-else-runs-eq0-clause-value : goal.returns-else-runs-eq0-clause-value
unfolding how_many
returns-else-runs-eq0-clause-value c =
    rw (ne_eqb (length (part_of c.args.case.now c.args.k) % 4) 0 (λ h. c.if-runs-eq0.false (ap (λ (l : List ℕ). length l % 4) c.part-runs.ensures ∙ h)))

pub returns-else-runs-eq0-clause-out_after : goal.returns-else-runs-eq0-clause-out_after
unfolding unpacked
returns-else-runs-eq0-clause-out_after c =
    rw (ne_eqb (length (part_of c.args.case.now c.args.k) % 4) 0 (λ h. c.if-runs-eq0.false (ap (λ (l : List ℕ). length l % 4) c.part-runs.ensures ∙ h)))
