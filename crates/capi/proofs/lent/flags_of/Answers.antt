-- `lent::flags_of` meets its contract. Assumes nothing.
use Rattle.std.proofs.Common.{arith}
use Rattle.lists.proofs.Tabled.{tabled-all}
use Rattle.capi.specs.Lent.{flags_of}
use Rattle.capi.proofs.lent.flags_of.Goals as goal

pub returns : goal.returns
unfolding flags_of
returns c = tabled-all _ _ _ c.loop-b.invariant (omega arith)
