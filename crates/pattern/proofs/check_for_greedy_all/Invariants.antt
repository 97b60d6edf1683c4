-- The loop of `pattern::check_for_greedy_all`: the notes are right for the records before i (`Noted`). Assumes nothing.
use Rattle.pattern.proofs.GreedyLaws.{Noted}
use Rattle.pattern.proofs.check_for_greedy_all.Given as goal

abbrev pub invariant-loop-i : goal.invariant-loop-i
invariant-loop-i l = Noted l.tree l.notes l.i
