-- The byte edges of a state as the choices look at them. Definitions only.
use Rattle.std.specs.Prelude.{List, [], ◌∷◌, ℕ, eqb, length, slice_get}
use Rattle.lists.specs.Lists.{any_l}
use Rattle.graph_rules.specs.Graph.{Graph, state_of}
use Rattle.edges.specs.Edges.{targets}
use Rattle.plan_rows.specs.declared.fork.Fork.{Fork}

-- of the ascending targets ts of state s: whether s is one of them, how many they are, and the lowest two
unfoldable pub fork_in : ℕ → List ℕ → Fork
fork_in s ts = record { own = any_l (eqb s) ts; count = length ts; lowest = slice_get ts 0 ∷ slice_get ts 1 ∷ [] }

unfoldable pub fork_of : Graph → ℕ → Fork
fork_of g s = fork_in s (targets (length g.states) (state_of g s))
