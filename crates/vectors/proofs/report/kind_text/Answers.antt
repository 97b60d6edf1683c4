-- `report::kind_text` meets its contract: a number has at most 20 digits, so every place is a number. Assumes nothing.
use Rattle.std.proofs.Common.{arith}
use Rattle.texts.proofs.Decimals.{decimal-64}
use Rattle.texts.proofs.Writing.{wrote_then}
use Rattle.vectors.specs.Report.{kind_text}
use Rattle.vectors.proofs.report.kind_text.Goals as goal

pub numbered-next-requires : goal.numbered-next-requires
numbered-next-requires c = omega (arith, decimal-64 c.tally-tally.result.alike (omega arith))

pub numbered-next-requires-2 : goal.numbered-next-requires-2
numbered-next-requires-2 c =
    omega (arith, c.numbered-next.ensures.place, decimal-64 c.tally-tally.result.differ (omega arith), decimal-64 c.tally-tally.result.alike (omega arith))

pub bytes-requires : goal.bytes-requires
bytes-requires c =
    omega (arith, c.numbered-next.ensures.place, c.numbered-next-2.ensures.place, decimal-64 c.tally-tally.result.differ (omega arith), decimal-64 c.tally-tally.result.alike (omega arith))

pub returns-clause-wrote : goal.returns-clause-wrote
unfolding kind_text
returns-clause-wrote c =
    rw (← c.tally-tally.ensures) (wrote_then c.numbered-next.ensures (wrote_then c.numbered-next-2.ensures c.bytes.ensures))

pub returns-clause-upper_bound : goal.returns-clause-upper_bound
returns-clause-upper_bound c =
    omega (arith, c.numbered-next.ensures.place, c.numbered-next-2.ensures.place, c.bytes.ensures.place, decimal-64 c.tally-tally.result.alike (omega arith), decimal-64 c.tally-tally.result.differ (omega arith))
