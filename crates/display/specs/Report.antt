-- Which refusal the calls tell: 12 or 9, then 29 for a buffer that is too short. Definitions only.
use Rattle.std.specs.Prelude.{not, List, [], ◌∷◌, ℕ, ltb, length}
use Rattle.lists.specs.Report.{on, lowest}
use Rattle.graph_rules.specs.Graph.{graph_from, graph_fits}
use Rattle.display.specs.Display.{displayed, line_of}
use Rattle.display.specs.Answers.{error_fits}

-- a text that does not fit a buffer
abbrev pub no_room : List ℕ → List ℕ → ℕ
no_room text found = on (ltb (length found) (length text)) 29

-- graph words, buffer
unfoldable pub display_refusal : List ℕ → List ℕ → ℕ
display_refusal words found = lowest (on (not (graph_fits words)) 12 ∷ no_room (displayed (graph_from words)) found ∷ [])

-- conflict words, buffer
unfoldable pub line_refusal : List ℕ → List ℕ → ℕ
line_refusal words found = lowest (on (not (error_fits words)) 9 ∷ no_room (line_of words) found ∷ [])
