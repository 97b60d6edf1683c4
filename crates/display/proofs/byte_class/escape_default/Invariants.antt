-- What the iterator has left is to come. Assumes nothing.
use Rattle.std.proofs.Common.{◌-◌, take, drop}
use Rattle.texts.proofs.Writing.{Underway}
use Rattle.display.specs.Display.{escaped}
use Rattle.display.proofs.byte_class.escape_default.Given as goal

abbrev pub invariant-loop-e : goal.invariant-loop-e
invariant-loop-e l = Underway l.fn.out l.at (escaped l.b) (take (l.e-iterator.to - l.e-iterator.from) (drop l.e-iterator.from l.e-iterator.bytes)) l.out l.next
