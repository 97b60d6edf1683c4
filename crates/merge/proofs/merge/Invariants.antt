-- The words are the buffer of a graph whose merge is that of the graph at the beginning. The measure is the number of states, which a round that
-- merges lowers. Assumes nothing.
use Rattle.std.proofs.Common.{get_or}
use Rattle.merge.proofs.Rounds.{Merging}
use Rattle.merge.proofs.merge.Given as goal

abbrev pub invariant-loop : goal.invariant-loop
invariant-loop l = Merging l.fn.graph l.graph

abbrev pub decreases-loop : goal.decreases-loop
decreases-loop l = get_or l.graph 0 0
