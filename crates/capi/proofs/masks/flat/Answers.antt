-- `masks::flat` meets its contract. Assumes nothing.
use Rattle.std.proofs.Common.{arith}
use Rattle.lists.proofs.Tabled.{tabled-all}
use Rattle.capi.specs.Stores.{flat}
use Rattle.capi.proofs.masks.flat.Goals as goal

pub returns : goal.returns
unfolding flat
returns c = tabled-all _ _ _ c.loop-i.invariant (omega arith)
