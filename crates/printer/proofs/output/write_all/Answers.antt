-- A write goes on where the last one ended. Assumes nothing.
use Rattle.std.proofs.Common.{rules}
use Rattle.printer.proofs.Streams.{writes_on}
use Rattle.printer.proofs.output.write_all.Goals as goal

pub loop-preserved : goal.loop-preserved
loop-preserved g c =
    (search rules, writes_on _ _ _ c.write-put.result c.args.text.now c.loop.done c.in-Ok-Some.n c.write-put.ensures.bound c.write-put.ensures.bytes (rw c.in-Ok-Some.field-0-is at c.in-Ok-Some.ensures).says (search rules) c.loop.invariant.1)
