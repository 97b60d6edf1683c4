-- What the calls of this crate answer, by the definitions of `graph_rules`. Definitions only.
use Rattle.std.specs.Prelude.{Result, Ok, Err, Some, None, true, false, cond, eqb, List, [], ◌∷◌, ℕ}
use Rattle.lists.specs.Report.{Report}
use Rattle.refusals.specs.declared.Refusal.{Refusal}
use Rattle.refusals.specs.declared.Refusal.TheVariants.{GraphForm}
use Rattle.refusals.specs.Refusals.{answered, report}
use Rattle.graph_rules.specs.Table.{table_of, refusal}
use Rattle.graph_rules.specs.Graph.{graph_fits, graph_from}
use Rattle.graph_rules.specs.Layout.{no_leaf}
use Rattle.graph_rules.specs.Read.{Reading, read_graph, read_table}

-- a record by two words: its leaf, or the word for none, and its end
abbrev pub recorded : ℕ → ℕ → Reading
recorded leaf end = cond (eqb leaf no_leaf) None (Some (record { leaf = leaf; end = end }))

-- and the two words of a record
abbrev pub leaf_word : Reading → ℕ
leaf_word None = no_leaf
leaf_word (Some f) = f.leaf

abbrev pub end_word : Reading → ℕ
end_word None = 0
end_word (Some f) = f.end

-- in numbers: whether there is a reading, its leaf, its end
abbrev pub found_values : Reading → List ℕ
found_values None = 0 ∷ 0 ∷ 0 ∷ []
found_values (Some f) = 1 ∷ f.leaf ∷ f.end ∷ []

abbrev pub read_report : Result Reading Refusal → Report
read_report a = report found_values 3 a

-- `read_graph`: 12, or the reading
unfoldable pub graph_read : List ℕ → List ℕ → Result Reading Refusal
graph_read graph text = elim (graph_fits graph) [ true ↦ Ok (read_graph (graph_from graph) text) | false ↦ Err GraphForm ]

-- `read_table`: 1 to 7, or the reading
unfoldable pub table_read : List ℕ → List ℕ → Result Reading Refusal
table_read table text = answered (refusal table) (read_table (table_of table) text)
