-- `parts::filled` meets its contract. Assumes nothing.
use Rattle.std.proofs.Common.{arith}
use Rattle.lists.proofs.Tabled.{tabled-all}
use Rattle.vectors.specs.Parts.{filled}
use Rattle.vectors.proofs.parts.filled.Goals as goal

pub returns : goal.returns
unfolding filled
returns c = tabled-all _ _ _ c.loop-k.invariant (omega arith)
