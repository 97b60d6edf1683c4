-- The invariants are those of `Looking`. The measure is the states that are not met, with those that wait. Assumes nothing.
use Rattle.std.proofs.Common.{◌+◌, ◌*◌, ◌-◌, length}
use Rattle.lists.specs.Sets.{count}
use Rattle.graph_rules.specs.Graph.{graph_from}
use Rattle.graph_rules.specs.Layout.{most_states}
use Rattle.prune.proofs.Looking.{Seeded, Looked}
use Rattle.prune.proofs.kept.Given as goal

abbrev pub invariant-loop-s : goal.invariant-loop-s
invariant-loop-s l = Seeded (graph_from l.fn.graph.words.now) l.s l.work

abbrev pub invariant-loop-t : goal.invariant-loop-t
invariant-loop-t l = Seeded (graph_from l.fn.graph.words.now) l.n l.work

abbrev pub decreases-loop-t : goal.decreases-loop-t
decreases-loop-t l = (most_states - count l.work.seen) + length l.work.waiting

abbrev pub invariant-loop-k : goal.invariant-loop-k
invariant-loop-k l = Looked (graph_from l.fn.graph.words.now) l.n l.t (8 * l.k) l.initial.work l.work

abbrev pub invariant-loop-b : goal.invariant-loop-b
invariant-loop-b l = Looked (graph_from l.fn.graph.words.now) l.n l.t (8 * l.k + l.b) l.initial.work l.work
