-- What the parts of the call hold. Definitions only.
use Rattle.std.specs.Prelude.{◌≡◌, Bool, List, ℕ, ◌<◌, get_or, Option, None}
use Rattle.lists.specs.Lists.{below, those, select}
use Rattle.graph_rules.specs.Table.{table_of}
use Rattle.graph_rules.specs.Build.{leaf_of}
use Rattle.graph_rules.specs.Clean.{first}

-- each state's leaf
abbrev pub LeavesOf : List ℕ → List (Option ℕ) → Type 0
LeavesOf w leaves = (s : ℕ) → s < get_or w 0 0 → get_or leaves s None ≡ leaf_of (table_of w) s

-- the lowest of the table's states that is in a set and passes a test
abbrev pub lowest_in : List ℕ → List Bool → (ℕ → Bool) → Option ℕ
lowest_in w set p = first (those p (select set (below (get_or w 0 0))))
