-- The members passed have their numbers, all else is none. Assumes nothing.
use Rattle.words.proofs.Naming.{Numbered}
use Rattle.words.proofs.names.numbered.Given as goal

abbrev pub invariant-loop-s : goal.invariant-loop-s
invariant-loop-s l = Numbered l.set l.s l.k l.out
