-- The marked states are those that a byte below b leads to. Assumes nothing.
use Rattle.graph_rules.specs.Graph.{state_of, graph_from}
use Rattle.edges.specs.Edges.{bytes_of}
use Rattle.edges.proofs.Rows.{Marking}
use Rattle.edges.proofs.targets.Given as goal

abbrev pub invariant-loop-b : goal.invariant-loop-b
invariant-loop-b l = Marking (bytes_of (state_of (graph_from l.graph.words.now) l.s)) l.found l.b
