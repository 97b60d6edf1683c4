-- Kind and the leaves before the index are written, and the leaves from there on are to come. Assumes nothing.
use Rattle.texts.proofs.Writing.{Underway}
use Rattle.display.proofs.Conflicts.{spaced}
use Rattle.display.proofs.errors.ConflictText.write.Given as goal

abbrev pub invariant-loop-leaf : goal.invariant-loop-leaf
invariant-loop-leaf l = Underway l.initial.out l.initial.next (spaced l.self.words.now 0) (spaced l.self.words.now l.leaf-index) l.out l.next
