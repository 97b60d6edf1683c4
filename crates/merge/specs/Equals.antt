-- The lowest state that equals another (rule 8). Definitions only.
use Rattle.std.specs.Prelude.{◌≡◌, ℕ, ◌≤◌, ◌<◌}
use Rattle.graph_rules.specs.Graph.{Graph, state_of}

-- state r is the lowest that equals state s
pub record Lowest (g : Graph) (s r : ℕ) : Type 0 where
  pub within : r ≤ s
  pub equal : state_of g r ≡ state_of g s
  pub before : (j : ℕ) → j < r → state_of g j ≡ state_of g s → ⊥
