-- The byte edges of a state, grouped by target (docs/RULES.md, "Edges"). Definitions only.
use Rattle.std.specs.Prelude.{Bool, List, map, ℕ, take, Option, Some}
use Rattle.lists.specs.Lists.{below, any_l, those, eq_option}
use Rattle.classes.specs.Classes.{Class}
use Rattle.graph_rules.specs.Graph.{State}
use Rattle.graph_rules.specs.Layout.{end_step}

abbrev pub bytes_of : State → List (Option ℕ)
bytes_of st = take end_step st.steps

-- the class of the edge to u: the bytes that lead there
unfoldable pub class_to : State → ℕ → Class
class_to st u = map (eq_option (Some u)) (bytes_of st)

-- a byte edge leads to u
unfoldable pub leads_to : State → ℕ → Bool
leads_to st u = any_l (eq_option (Some u)) (bytes_of st)

-- the targets of its edges, ascending, in a graph of n states
unfoldable pub targets : ℕ → State → List ℕ
targets n st = those (leads_to st) (below n)
