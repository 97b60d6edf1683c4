-- Of the targets below u, the count is their number, and `lowest` are the first two.
use Rattle.graph_rules.specs.Graph.{state_of, graph_from}
use Rattle.edges.specs.Edges.{leads_to}
use Rattle.plan_rows.proofs.Forks.{Forking}
use Rattle.plan_rows.proofs.fork.fork_at.Given as goal

abbrev pub invariant-loop-u : goal.invariant-loop-u
invariant-loop-u l = Forking (leads_to (state_of (graph_from l.graph.words.now) l.s)) l.count l.lowest l.u
