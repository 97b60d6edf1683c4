-- The graph that rules 2 to 4 make, and a table's row as words of it, once every state has a new name. Definitions only.
use Rattle.std.specs.Prelude.{cond, List, [], ◌∷◌, ◌++◌, map, ℕ, eqb, get_or, Option, None, unwrap_or}
use Rattle.graph_rules.specs.Table.{Table, row_of}
use Rattle.graph_rules.specs.Graph.{Graph}
use Rattle.graph_rules.specs.Build.{reached, restrict, whole_graph, leaf_of}
use Rattle.graph_rules.specs.Layout.{no_state, no_leaf, marks_word}

-- the graph of the states that are reached from s
abbrev pub first_graph : Table → ℕ → Graph
first_graph t s = restrict (reached t s) (whole_graph t s)

-- a target by its new name: none where the step leads to state 0 and is dropped
abbrev pub new_target : List (Option ℕ) → ℕ → Option ℕ
new_target names u = cond (eqb u 0) None (get_or names u None)

-- the targets, and the marks word: the state's leaf, and no early leaf
unfoldable pub new_row : Table → List (Option ℕ) → ℕ → List ℕ
new_row t names s = map (λ u. unwrap_or (new_target names u) no_state) (row_of t s).steps ++ ((marks_word (unwrap_or (leaf_of t s) no_leaf) no_leaf) ∷ [])
