-- `report::kind_lines` meets its contract. Assumes nothing.
use Rattle.std.proofs.Common.{arith}
use Rattle.texts.proofs.Writing.{goes, ends, underway-as}
use Rattle.vectors.specs.Report.{name_byte}
use Rattle.vectors.proofs.Lines.{lines_next, lines-done}
use Rattle.vectors.proofs.report.kind_lines.Goals as goal

pub loop-b-preserved : goal.loop-b-preserved
loop-b-preserved c =
    let l = c.loop-b in
    let b = c.name_byte-next.ensures in
    let u = underway-as (lines_next c.args.kinds.names.now c.args.w l.kind l.b-index (omega arith)) l.invariant.2 in
    (omega (arith, b.upper_bound), omega arith, rw c.after_byte-kind.ensures.0 (goes (name_byte _ _ _) _ u b.wrote))

pub returns-clause-wrote : goal.returns-clause-wrote
returns-clause-wrote c =
    let l = c.loop-b in
    ends (underway-as (lines-done c.args.kinds.names.now c.args.w l.kind l.b-index (omega arith)) l.invariant.2)
