-- Which refusal the build's calls tell, and the values that they tell otherwise, in numbers. Definitions only.
use Rattle.std.specs.Prelude.{◌||◌, List, [], ◌∷◌, ℕ, ◌%◌, eqb, ltb, length, get_or}
use Rattle.lists.specs.Report.{on, lowest}
use Rattle.graph_rules.specs.Table.{table_of, refusal}
use Rattle.graph_rules.specs.Build.{Built, build}
use Rattle.graph.specs.New.{conflicts, words_of}
use Rattle.graph_rules.specs.Layout.{graph_size}

-- table words, graph buffer, error buffer: 1 to 7; 8, "graph buffer below 2 + 258n"; 9, "error buffer below the words needed"
unfoldable pub new_refusal : List ℕ → List ℕ → List ℕ → ℕ
new_refusal table graph errors =
    lowest
    (refusal table
    ∷ on (ltb (length graph) (graph_size (get_or table 0 0))) 8
    ∷ on (ltb (length errors) (length (conflicts (build (table_of table))))) 9
    ∷ [])

-- 13, "image of odd length or over 65,536 bytes", "precedes 1"
unfoldable pub image_refusal : List ℕ → List ℕ → List ℕ → ℕ
image_refusal image graph errors = lowest (on (eqb (length image % 2) 1 || ltb 65536 (length image)) 13 ∷ new_refusal (words_of image) graph errors ∷ [])

-- the number of states, the root, the number of errors, the number of error words
abbrev pub build_values : Built → List ℕ
build_values b = length b.graph.states ∷ b.graph.root ∷ length b.errors ∷ length (conflicts b) ∷ []
