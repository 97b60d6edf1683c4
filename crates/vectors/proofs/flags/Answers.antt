-- `flags` meets its contract. Assumes nothing.
use Rattle.std.proofs.Common.{arith}
use Rattle.lists.proofs.Tabled.{tabled-all}
use Rattle.vectors.proofs.flags.Goals as goal

pub returns : goal.returns
returns c = tabled-all _ _ _ c.loop-b.invariant (omega arith)
