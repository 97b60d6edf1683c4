-- What the calls answer, and the lent buffer after them. Definitions only.
use Rattle.std.specs.Prelude.{Bool, cond, ◌&&◌, List, [], ◌∷◌, ◌++◌, ℕ, ◌+◌, leb, length, get_or, drop, Result, Ok, Err}
use Rattle.lists.specs.Report.{Report}
use Rattle.refusals.specs.Refusals.{report}
use Rattle.refusals.specs.declared.Refusal.{Refusal}
use Rattle.refusals.specs.declared.Refusal.TheVariants.{GraphForm, ErrorRoom, NoRoom}
use Rattle.graph_rules.specs.Graph.{graph_from, graph_fits}
use Rattle.display.specs.Display.{displayed, line_of}

-- an answer in numbers: how many bytes were written; or a refusal
abbrev pub shown_report : Result ℕ Refusal → Report
shown_report = report (λ n. n ∷ []) 1

pub record Call : Type 0 where
  pub answer : Result ℕ Refusal
  pub buffer : List ℕ

abbrev pub refused : Refusal → List ℕ → Call
refused r found = record { answer = Err r; buffer = found }

-- a text is written whole from the front of the buffer; 29 if it does not fit
unfoldable pub written : List ℕ → List ℕ → Call
written text found =
    cond (leb (length text) (length found))
    (record { answer = Ok (length text); buffer = text ++ drop (length text) found })
    (refused NoRoom found)

-- the text of a graph: 12, then 29
unfoldable pub display_call : List ℕ → List ℕ → Call
display_call words found = cond (graph_fits words) (written (displayed (graph_from words)) found) (refused GraphForm found)

-- the words begin with a conflict: kind, leaf count, and as many leaves
unfoldable pub error_fits : List ℕ → Bool
error_fits words = leb 2 (length words) && leb (2 + get_or words 1 0) (length words)

-- the line of the conflict that the words begin with: 9 if they end before it does, then 29
unfoldable pub line_call : List ℕ → List ℕ → Call
line_call words found = cond (error_fits words) (written (line_of words) found) (refused ErrorRoom found)
