-- What is counted are the ties of the states from s on, and their words. Assumes nothing.
use Rattle.conflicts.proofs.Conflicts.{Counted}
use Rattle.conflicts.proofs.tie_words.Given as goal

abbrev pub invariant-loop-s : goal.invariant-loop-s
invariant-loop-s l = Counted l.table.words.now l.set l.s l.errors l.words
