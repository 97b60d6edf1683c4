-- `report::checksum` meets its contract. Assumes nothing.
use Rattle.std.proofs.Common.{arith, sym, ◌∙◌}
use Rattle.vectors.proofs.Lines.{sum-next, sum_done}
use Rattle.vectors.proofs.report.checksum.Goals as goal

pub loop-b-preserved : goal.loop-b-preserved
loop-b-preserved c =
    let l = c.loop-b in
    (omega arith, rw c.from.ensures (sym (sum-next c.args.list.now l.sum l.b-index (omega arith)) ∙ l.invariant.1))

pub returns : goal.returns
returns c = let l = c.loop-b in sym (sum_done c.args.list.now l.sum l.b-index (omega arith)) ∙ l.invariant.1
