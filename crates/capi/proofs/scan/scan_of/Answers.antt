-- `scan::scan_of` meets its contract. Assumes nothing.
use borrow.Author.Tests.{eq-eqb, ne_eqb}
use Rattle.capi.specs.Scans.{ended, scan_of}
use Rattle.capi.proofs.scan.scan_of.Goals as goal

pub returns-then-number-eq-ENDED : goal.returns-then-number-eq-ENDED
unfolding scan_of
returns-then-number-eq-ENDED c = rw (eq-eqb c.args.number ended c.if-number-eq-ENDED.true)

pub returns-else-number-eq-ENDED : goal.returns-else-number-eq-ENDED
unfolding scan_of
returns-else-number-eq-ENDED c = rw (ne_eqb c.args.number ended c.if-number-eq-ENDED.false)
