-- No state passed equals state s. Assumes nothing.
use Rattle.std.proofs.Common.{◌≡◌, ℕ, ◌<◌}
use Rattle.graph_rules.specs.Graph.{graph_from, state_of}
use Rattle.merge.proofs.first_equal.Given as goal

abbrev pub invariant-loop-e : goal.invariant-loop-e
invariant-loop-e l = (j : ℕ) → j < l.e → state_of (graph_from l.fn.graph.words.now) j ≡ state_of (graph_from l.fn.graph.words.now) l.s → ⊥
