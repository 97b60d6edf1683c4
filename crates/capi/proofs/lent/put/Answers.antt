-- `lent::put` meets its contract. Assumes nothing.
use Rattle.std.proofs.Common.{refl}
use Rattle.capi.proofs.Blocks.{put-short, put-taken}
use Rattle.capi.proofs.lent.put.Goals as goal

pub returns-then-block-bytes : goal.returns-then-block-bytes
returns-then-block-bytes c = rw (put-short c.args.bytes.now c.args.block.now c.if-block-bytes.true) (refl, refl)

pub returns : goal.returns
returns c = rw (put-taken c.args.bytes.now c.args.block.now c.if-block-bytes.false, c.copy_from_slice.ensures.after) (refl, refl)
