-- The states below s are prepared; behind them the edges are as found.
use Rattle.graph_rules.specs.Graph.{graph_from}
use Rattle.runner.proofs.Preparing.{PreparedTo}
use Rattle.runner.proofs.prepare.prepare.Given as goal

abbrev pub invariant-loop-s : goal.invariant-loop-s
invariant-loop-s l = PreparedTo (graph_from l.graph.words.now) l.s l.fn.edges l.edges
