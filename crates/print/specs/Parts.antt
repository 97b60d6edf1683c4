-- The parts of what is printed, from the words in the two buffers: the inner functions' contracts. Definitions only.
use Rattle.std.specs.Prelude.{◌≡◌, Bool, true, ◌&&◌, List, [], ◌++◌, ℕ, zero, suc, ◌+◌, get_or, drop, Result, Ok, Err}
use Rattle.graph_rules.specs.Graph.{graph_from, graph_fits}
use Rattle.refusals.specs.Refusals.{number}
use Rattle.refusals.specs.declared.Refusal.{Refusal}
use Rattle.graph.specs.declared.new.Counts.{Counts}
use Rattle.display.specs.Display.{displayed, line_of}
use Rattle.display.specs.Answers.{error_fits}
use Rattle.print.specs.Print.{line, refused_line}

-- the words after the conflict that they begin with
abbrev pub later : List ℕ → List ℕ
later w = drop (2 + get_or w 1 0) w

-- the words begin with k conflicts
unfoldable pub errors_fit : ℕ → List ℕ → Bool
errors_fit zero w = true
errors_fit (suc k) w = error_fits w && errors_fit k (later w)

-- the lines of the first k conflicts
unfoldable pub error_lines : ℕ → List ℕ → List ℕ
error_lines zero w = []
error_lines (suc k) w = line (line_of w) ++ error_lines k (later w)

-- of graph words and the words of k conflicts
unfoldable pub words_text : List ℕ → List ℕ → ℕ → List ℕ
words_text graph errors k = line (displayed (graph_from graph)) ++ error_lines k errors

-- of what a build answers, and the words it leaves
abbrev pub answer_text : Result Counts Refusal → List ℕ → List ℕ → List ℕ
answer_text (Ok c) graph errors = words_text graph errors c.errors
answer_text (Err r) graph errors = refused_line (number r)

-- a build that was not refused leaves a graph, and as many conflicts as it says
pub record Held (graph errors : List ℕ) (k : ℕ) : Type 0 where
  pub taken : graph_fits graph ≡ true
  pub listed : errors_fit k errors ≡ true

abbrev pub Holds : Result Counts Refusal → List ℕ → List ℕ → Type 0
Holds (Ok c) graph errors = Held graph errors c.errors
Holds (Err r) graph errors = Unit {0}
