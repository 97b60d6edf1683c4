-- Byte after byte. Assumes nothing.
use Rattle.std.proofs.Common.{arith}
use Rattle.texts.proofs.Writing.{wrote-next, counts-next}
use Rattle.texts.proofs.bytes.Goals as goal

pub byte-next-requires : goal.byte-next-requires
byte-next-requires c = counts-next c.args.text.now c.loop-b.b-index (omega arith) c.loop-b.invariant c.requires

pub loop-b-preserved : goal.loop-b-preserved
loop-b-preserved c = wrote-next c.args.text.now c.loop-b.b-index (omega arith) c.loop-b.invariant c.byte-next.ensures
