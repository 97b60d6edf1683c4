-- `masks::tables` meets its contract. Assumes nothing.
use Rattle.std.proofs.Common.{arith}
use Rattle.lists.proofs.Tabled.{tabled-all}
use Rattle.vectors.specs.Masks.{tables}
use Rattle.vectors.proofs.masks.tables.Goals as goal

pub returns : goal.returns
unfolding tables
returns c = tabled-all _ _ _ c.loop-i.invariant (omega arith)
