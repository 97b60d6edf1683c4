-- `cases::end` meets its contract. Assumes nothing.
use Rattle.std.proofs.Common.{arith, ap}
use Rattle.vectors.specs.Cases.{end_of}
use Rattle.vectors.proofs.Ends.{end-first, end_later}
use Rattle.vectors.proofs.cases.end.Goals as goal

pub returns-then-k-eq0 : goal.returns-then-k-eq0
returns-then-k-eq0 c =
    let case = c.args.case.now in
    (omega (arith, ap (end_of case) c.if-k-eq0.true, end-first case), omega arith)

pub returns-else-k-eq0 : goal.returns-else-k-eq0
returns-else-k-eq0 c =
    (omega (arith, end_later c.args.case.now _ c.args.k c.count-n.ensures.0 (omega arith)), omega arith)
