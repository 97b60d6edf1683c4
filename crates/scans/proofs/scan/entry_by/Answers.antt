-- No reading, or one that ends where it began, gives a gap. Assumes nothing.
use Rattle.std.proofs.Common.{ap}
use Rattle.scans.specs.declared.scan.Piece.TheVariants.{Gap}
use Rattle.scans.proofs.scan.entry_by.Goals as goal
use Rattle.scans.proofs.scan.entry_by.Goals.{in_default-via-in-Some+else-found-ne0, in_default-via-in_default}

pub returns-in_default : goal.returns-in_default
returns-in_default c =
    elim c.in_default.branch [
      | in_default-via-in-Some+else-found-ne0 w ↦ rw (w.in-Some.is, w.if-found-ne0.false) (ap (Gap c.args.at) c.gap_end.ensures)
      | in_default-via-in_default w ↦ rw w.in_default.is (ap (Gap c.args.at) c.gap_end.ensures)
    ]
