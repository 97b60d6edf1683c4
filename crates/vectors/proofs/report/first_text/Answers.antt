-- `report::first_text` meets its contract. Assumes nothing.
use Rattle.std.proofs.Common.{arith}
use Rattle.texts.proofs.Decimals.{decimal-64}
use Rattle.texts.proofs.Writing.{wrote_then}
use Rattle.vectors.proofs.report.first_text.Goals as goal

pub numbered-next-requires : goal.numbered-next-requires
numbered-next-requires c = omega (arith, decimal-64 c.args.first (omega arith))

pub byte-requires : goal.byte-requires
byte-requires c = omega (arith, c.numbered-next.ensures.place, decimal-64 c.args.first (omega arith))

pub returns-clause-wrote : goal.returns-clause-wrote
returns-clause-wrote c = wrote_then c.numbered-next.ensures c.byte.ensures

pub returns-clause-upper_bound : goal.returns-clause-upper_bound
returns-clause-upper_bound c =
    omega (arith, c.numbered-next.ensures.place, c.byte.ensures.place, decimal-64 c.args.first (omega arith))
