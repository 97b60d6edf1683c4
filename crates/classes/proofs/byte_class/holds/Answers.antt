-- One comparison tested of a byte. Assumes nothing.
use Rattle.std.proofs.Common.{arith}
use borrow.Author.Tests.{le-leb}
use Rattle.classes.proofs.Listed.{excepted-any}
use Rattle.classes.proofs.byte_class.holds.Goals as goal

pub returns-then-byte-range : goal.returns-then-byte-range
returns-then-byte-range c =
    rw (le-leb c.args.range.first c.args.byte (omega arith), le-leb c.args.byte c.args.range.last (omega arith), c.contains.ensures.value, excepted-any c.args.except.now c.args.byte)
