-- The flags are of the states that an edge passed uncovers. Assumes nothing.
use Rattle.graph_rules.specs.Graph.{graph_from}
use Rattle.clear.proofs.Parents.{Passed}
use Rattle.clear.proofs.uncovered.Given as goal

abbrev pub invariant-loop-p : goal.invariant-loop-p
invariant-loop-p l = Passed (graph_from l.fn.graph.words.now) l.p 0 l.out

abbrev pub invariant-loop-c : goal.invariant-loop-c
invariant-loop-c l = Passed (graph_from l.fn.graph.words.now) l.p l.c l.out
