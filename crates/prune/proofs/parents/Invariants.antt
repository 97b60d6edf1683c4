-- The bits are of the edges passed. Assumes nothing.
use Rattle.graph_rules.specs.Graph.{graph_from}
use Rattle.prune.proofs.BitRows.{Matrix}
use Rattle.prune.proofs.parents.Given as goal

abbrev pub invariant-loop-p : goal.invariant-loop-p
invariant-loop-p l = Matrix (graph_from l.fn.graph.words.now) l.p 0 l.out

abbrev pub invariant-loop-c : goal.invariant-loop-c
invariant-loop-c l = Matrix (graph_from l.fn.graph.words.now) l.p l.c l.out
