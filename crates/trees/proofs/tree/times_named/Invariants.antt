-- The loop of `trees::tree::times_named`: the counts are those of the records before i (`Tallied`). Assumes nothing.
use Rattle.trees.proofs.Naming.{Tallied}
use Rattle.trees.proofs.tree.times_named.Given as goal

abbrev pub invariant-loop-i : goal.invariant-loop-i
invariant-loop-i l = Tallied l.tree l.times l.i
