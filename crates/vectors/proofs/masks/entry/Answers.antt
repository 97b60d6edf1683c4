-- `masks::entry` meets its contract. Assumes nothing.
use Rattle.std.proofs.Common.{add-one}
use Rattle.vectors.specs.Masks.{with_mask}
use Rattle.vectors.proofs.masks.entry.Goals as goal

pub loop-k-preserved : goal.loop-k-preserved
unfolding with_mask
loop-k-preserved c = rw (add-one, c.with_bit-bits.ensures, c.mask_has.ensures, c.loop-k.invariant)
