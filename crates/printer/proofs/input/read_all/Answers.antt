-- A read goes on where the last one ended. Assumes nothing.
use Rattle.std.proofs.Common.{rules}
use Rattle.printer.proofs.Streams.{reads_on}
use Rattle.printer.proofs.input.read_all.Goals as goal

pub loop-preserved : goal.loop-preserved
loop-preserved g c = (
  search rules,
  search rules,
  reads_on _ _ _ c.read-got.result c.loop.buf c.read-got.new.buf c.loop.done _ c.in-Ok-Some.n (search rules) (search rules) (search rules) (search rules) c.read-got.ensures.bound c.read-got.ensures.bytes (rw c.in-Ok-Some.field-0-is at c.in-Ok-Some.ensures).says c.loop.invariant.2,
)
