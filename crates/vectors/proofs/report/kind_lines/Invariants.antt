-- The loop of `report::kind_lines`: the lines from this byte of the names on are still to be written.
use Rattle.std.proofs.Common.{◌≤◌, ◌*◌, drop}
use Rattle.texts.proofs.Writing.{Underway}
use Rattle.vectors.specs.Report.{kind_lines}
use Rattle.vectors.proofs.report.kind_lines.Given as goal

abbrev pub invariant-loop-b : goal.invariant-loop-b
invariant-loop-b l =
    (l.next ≤ 64 * l.b-index) × (l.kind ≤ l.b-index)
    × Underway l.fn.out 0 (kind_lines l.kinds.names.now l.w 0) (kind_lines (drop l.b-index l.kinds.names.now) l.w l.kind) l.out l.next
