-- What the build's calls answer, and what they leave in the two buffers. Definitions only.
use Rattle.std.specs.Prelude.{true, false, cond, ◌||◌, ℕ, ◌+◌, ◌*◌, ◌%◌, eqb, ltb, length, get_or, drop, Result, Ok, Err}
use mathlib.Core.List.{List, [], ◌∷◌, ◌++◌, flat_map}
use Rattle.lists.specs.Report.{Report}
use Rattle.refusals.specs.Refusals.{numbered, report}
use Rattle.refusals.specs.declared.Refusal.{Refusal}
use Rattle.refusals.specs.declared.Refusal.TheVariants.{GraphRoom, ErrorRoom, ImageLength}
use Rattle.graph_rules.specs.Table.{table_of, refusal}
use Rattle.graph_rules.specs.Graph.{written_on}
use Rattle.graph_rules.specs.Build.{Built, error_words, build}
use Rattle.graph.specs.declared.new.Counts.{Counts}
use Rattle.graph_rules.specs.Layout.{graph_size}

-- in numbers: states, root, errors, error words
abbrev pub count_values : Counts → List ℕ
count_values c = c.states ∷ c.root ∷ c.errors ∷ c.words ∷ []

abbrev pub built_report : Result Counts Refusal → Report
built_report = report count_values 4

-- an answer, and the two buffers after it
pub record Outcome : Type 0 where
  pub answer : Result Counts Refusal
  pub graph : List ℕ
  pub errors : List ℕ

-- "A refusal returns its number and zeros elsewhere; buffers .. are unchanged"
abbrev pub refused_by : Refusal → List ℕ → List ℕ → Outcome
refused_by refusal graph errors = record { answer = Err refusal; graph = graph; errors = errors }

-- the words of the errors of a build
unfoldable pub conflicts : Built → List ℕ
conflicts b = flat_map error_words b.errors

abbrev pub counts_of : Built → Counts
counts_of b =
    record { states = length b.graph.states; root = b.graph.root; errors = length b.errors; words = length (conflicts b) }

-- a build of a table of n states, written: "Words after it, up to 2 + 258n, become 0; later ones are untouched"; "Words after any other output are untouched"
unfoldable pub wrote : ℕ → Built → List ℕ → List ℕ → Outcome
wrote n b graph errors =
    record {
      answer = Ok (counts_of b);
      graph = written_on n b.graph graph;
      errors = conflicts b ++ drop (length (conflicts b)) errors;
    }

-- 9: "error buffer below the words needed"
unfoldable pub wrote_or_9 : ℕ → Built → List ℕ → List ℕ → Outcome
wrote_or_9 n b graph errors = cond (ltb (length errors) (length (conflicts b))) (refused_by ErrorRoom graph errors) (wrote n b graph errors)

-- 8: "graph buffer below 2 + 258n"
unfoldable pub written_or : ℕ → Built → List ℕ → List ℕ → Outcome
written_or n b graph errors = cond (ltb (length graph) (graph_size n)) (refused_by GraphRoom graph errors) (wrote_or_9 n b graph errors)

-- `new`: table words, graph buffer, error buffer
unfoldable pub new_of : List ℕ → List ℕ → List ℕ → Outcome
new_of table graph errors =
    elim (eqb (refusal table) 0) [
      | true ↦ written_or (get_or table 0 0) (build (table_of table)) graph errors
      | false ↦ refused_by (numbered (refusal table)) graph errors
    ]

-- ---- `from_image`: bytes, two a word, low byte first. "13 precedes 1"

abbrev pub words_of : List ℕ → List ℕ
words_of [] = []
words_of (low ∷ []) = []
words_of (low ∷ (high ∷ image)) = (low + 256 * high) ∷ words_of image

-- 13: "image of odd length or over 65,536 bytes"
unfoldable pub image_of : List ℕ → List ℕ → List ℕ → Outcome
image_of image graph errors =
    cond (eqb (length image % 2) 1 || ltb 65536 (length image)) (refused_by ImageLength graph errors) (new_of (words_of image) graph errors)
