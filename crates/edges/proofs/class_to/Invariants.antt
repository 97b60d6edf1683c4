-- The flags of the bytes below b are those of the class. Assumes nothing.
use Rattle.graph_rules.specs.Graph.{state_of, graph_from}
use Rattle.edges.specs.Edges.{class_to}
use Rattle.edges.proofs.Rows.{Filling}
use Rattle.edges.proofs.class_to.Given as goal

abbrev pub invariant-loop-b : goal.invariant-loop-b
invariant-loop-b l = Filling (class_to (state_of (graph_from l.graph.words.now) l.s) l.u) l.class l.b
