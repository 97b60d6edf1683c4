-- A gap has one byte.
use Rattle.scans.specs.Scan.{gap_length}
use Rattle.std.proofs.Common.{refl}
use Rattle.scans.proofs.scan.gap_end.Goals as goal

pub returns : goal.returns
unfolding gap_length
returns c = refl
