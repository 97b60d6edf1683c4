-- The loop of `report::checksum`: the sum goes on over the bytes that are left.
use Rattle.std.proofs.Common.{◌≡◌, ◌<◌, drop}
use Rattle.vectors.specs.Report.{checksum as sum_from}
use Rattle.vectors.proofs.report.checksum.Given as goal

abbrev pub invariant-loop-b : goal.invariant-loop-b
invariant-loop-b l = (l.sum < 4294967291) × (sum_from l.sum (drop l.b-index l.list) ≡ sum_from 0 l.list)
