-- The states before s are written, and those from there on are to come. Assumes nothing.
use Rattle.texts.proofs.Writing.{Underway}
use Rattle.display.proofs.States.{listed}
use Rattle.display.proofs.graph.GraphText.write.Given as goal

abbrev pub invariant-loop-s : goal.invariant-loop-s
invariant-loop-s l = Underway l.initial.out l.initial.next (listed l.self.words.now 1) (listed l.self.words.now l.s) l.out l.next
