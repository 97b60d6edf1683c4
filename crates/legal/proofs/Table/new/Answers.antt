-- After each test one condition more holds; where a test fails, it is the lowest that is broken. Assumes nothing.
use mathlib.Core.Path.{refl, sym, ◌∙◌}
use Rattle.legal.proofs.Legal.{told-start, told-empties, told-targets, told-heads, told-records, none-refused}
use Rattle.legal.proofs.Table.new.Goals.{then-not-heads_fit-via-then-not-heads_fit, then-not-heads_fit-via-else-not-heads_fit+then-not-records_fit}
use Rattle.legal.proofs.Table.new.Goals as goal

pub returns-then-not-start_fits : goal.returns-then-not-start_fits
returns-then-not-start_fits c =
    let e = c.in_ok-counted.ensures in
    rw e at (told-start _ c.in_ok-counted.counted.sized (sym c.start_fits.ensures ∙ c.if-not-start_fits.true))

pub returns-then-not-empties_fit : goal.returns-then-not-empties_fit
returns-then-not-empties_fit c =
    let e = c.in_ok-counted.ensures in
    rw e at (told-empties _ c.in_ok-counted.counted.sized (sym c.start_fits.ensures ∙ c.if-not-start_fits.false) (sym c.empties_fit.ensures ∙ c.if-not-empties_fit.true))

pub returns-then-not-targets_fit : goal.returns-then-not-targets_fit
returns-then-not-targets_fit c =
    let e = c.in_ok-counted.ensures in
    rw e at (told-targets _ c.in_ok-counted.counted.sized (sym c.start_fits.ensures ∙ c.if-not-start_fits.false) (sym c.empties_fit.ensures ∙ c.if-not-empties_fit.false) (sym c.targets_fit.ensures ∙ c.if-not-targets_fit.true))

pub returns-then-not-heads_fit : goal.returns-then-not-heads_fit
returns-then-not-heads_fit c =
    let e = c.in_ok-counted.ensures in
    elim c.then-not-heads_fit.branch [
      | then-not-heads_fit-via-then-not-heads_fit w ↦
          rw e at (told-heads _ c.in_ok-counted.counted.sized (sym c.start_fits.ensures ∙ c.if-not-start_fits.false) (sym c.empties_fit.ensures ∙ c.if-not-empties_fit.false) (sym c.targets_fit.ensures ∙ c.if-not-targets_fit.false) (sym c.heads_fit.ensures ∙ w.if-not-heads_fit.true))
      | then-not-heads_fit-via-else-not-heads_fit+then-not-records_fit w ↦
          rw e at (told-records _ c.in_ok-counted.counted.sized (sym c.start_fits.ensures ∙ c.if-not-start_fits.false) (sym c.empties_fit.ensures ∙ c.if-not-empties_fit.false) (sym c.targets_fit.ensures ∙ c.if-not-targets_fit.false) (sym w.records_fit.ensures ∙ w.if-not-records_fit.true))
    ]

pub invariant_of-result : goal.invariant_of-result
invariant_of-result c =
    let e = c.in_ok-counted.ensures in
    record {
      legal = rw e at (none-refused _ c.in_ok-counted.counted.sized (sym c.start_fits.ensures ∙ c.if-not-start_fits.false) (sym c.empties_fit.ensures ∙ c.if-not-empties_fit.false) (sym c.targets_fit.ensures ∙ c.if-not-targets_fit.false) (sym c.heads_fit.ensures ∙ c.if-not-heads_fit.false)
          (sym c.records_fit.ensures ∙ c.if-not-records_fit.false));
    }

pub returns : goal.returns
returns c =
    let e = c.in_ok-counted.ensures in (
      refl,
      rw e at (none-refused _ c.in_ok-counted.counted.sized (sym c.start_fits.ensures ∙ c.if-not-start_fits.false) (sym c.empties_fit.ensures ∙ c.if-not-empties_fit.false) (sym c.targets_fit.ensures ∙ c.if-not-targets_fit.false) (sym c.heads_fit.ensures ∙ c.if-not-heads_fit.false)
          (sym c.records_fit.ensures ∙ c.if-not-records_fit.false)),
    )
