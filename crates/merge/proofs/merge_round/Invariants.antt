-- The states passed are grouped with the lowest that equals each. Assumes nothing.
use Rattle.graph_rules.specs.Graph.{graph_from}
use Rattle.merge.proofs.Grouping.{Grouped}
use Rattle.merge.proofs.merge_round.Given as goal

abbrev pub invariant-loop-s : goal.invariant-loop-s
invariant-loop-s l = Grouped (graph_from l.fn.graph) l.s l.k l.names l.stay
