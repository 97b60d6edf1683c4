-- The conflict list of a set of states, and the lent buffer: "kind, leaf count, leaves" for each conflict, one after another from the front, and the
-- rest unchanged. Definitions only.
use Rattle.std.specs.Prelude.{Bool, ℕ, length, get_or, take, drop}
use mathlib.Core.List.{List, ◌++◌, flat_map}
use Rattle.graph_rules.specs.Table.{table_of}
use Rattle.graph_rules.specs.Build.{Error, error_words, ties}

-- rule 3's conflicts for a set of the n states of a table's words; flags from n on mean nothing
abbrev pub ties_in : List ℕ → List Bool → List Error
ties_in w set = ties (table_of w) (take (get_or w 0 0) set)

abbrev pub listed : List Error → List ℕ → List ℕ
listed errors found = flat_map error_words errors ++ drop (length (flat_map error_words errors)) found
