-- A reading in numbers: whether there is one, its leaf, its end. Definitions only.
use Rattle.std.specs.Prelude.{List, [], ◌∷◌, ℕ, Some, None}
use Rattle.graph_rules.specs.Read.{Reading}

abbrev pub read_values : Reading → List ℕ
read_values None = 0 ∷ 0 ∷ 0 ∷ []
read_values (Some f) = 1 ∷ f.leaf ∷ f.end ∷ []
