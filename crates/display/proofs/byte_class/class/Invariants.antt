-- The ranges before the index are written, and those from there on are to come. Assumes nothing.
use Rattle.texts.proofs.Writing.{Underway}
use Rattle.display.proofs.Bars.{barred}
use Rattle.display.proofs.byte_class.class.Given as goal

abbrev pub invariant-loop-other : goal.invariant-loop-other
invariant-loop-other l = Underway l.initial.out l.initial.next (barred l.rest 0) (barred l.rest l.other-index) l.out l.next
