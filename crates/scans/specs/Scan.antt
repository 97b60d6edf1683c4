-- The scan of a text by a graph (docs/RULES.md, "Scan"). Definitions only.
use Rattle.std.specs.Prelude.{Bool, true, false, cond, List, [], ◌∷◌, ℕ, ◌+◌, eqb, ltb, length, drop, Option, Some, None, Result, Ok, Err}
use Rattle.lists.specs.Report.{Report}
use Rattle.refusals.specs.declared.Refusal.{Refusal}
use Rattle.refusals.specs.declared.Refusal.TheVariants.{GraphForm, PlanOrOffset, ScanEnded}
use Rattle.refusals.specs.Refusals.{report}
use Rattle.graph_rules.specs.Graph.{Graph, graph_from, graph_fits}
use Rattle.graph_rules.specs.Read.{Reading, read_graph}
use Rattle.scans.specs.declared.scan.Place.{Place}
use Rattle.scans.specs.declared.scan.Place.TheVariants.{Reading as ReadingAt, Ended as HasEnded}
use Rattle.scans.specs.declared.scan.Scan.{Scan}
use Rattle.scans.specs.declared.scan.Piece.{Piece}
use Rattle.scans.specs.declared.scan.Piece.TheVariants.{Token, Gap}
use Rattle.scans.specs.declared.scan.Scanned.{Scanned}

-- "It is either reading at an offset or ended"

abbrev pub reading_at : ℕ → Scan
reading_at offset = record { place = ReadingAt offset }

abbrev pub has_ended : Scan
has_ended = record { place = HasEnded }

abbrev pub fresh : Scan
fresh = reading_at 0

-- an answer in numbers: 1 for a token, 2 for a gap, 0 for none; leaf, start, end
abbrev pub piece_values : Option Piece → List ℕ
piece_values (Some (Token leaf start end)) = 1 ∷ leaf ∷ start ∷ end ∷ []
piece_values (Some (Gap start end)) = 2 ∷ 0 ∷ start ∷ end ∷ []
piece_values None = 0 ∷ 0 ∷ 0 ∷ 0 ∷ []

abbrev pub scan_report : Result (Option Piece) Refusal → Report
scan_report a = report piece_values 4 a

abbrev pub end_of : Piece → ℕ
end_of (Token leaf start end) = end
end_of (Gap start end) = end

-- "a gap of one byte": the length of the gap in a text at an offset below its length
unfoldable pub gap_length : List ℕ → ℕ → ℕ
gap_length text offset = 1

abbrev pub gap_at : List ℕ → ℕ → Piece
gap_at text offset = Gap offset (offset + gap_length text offset)

-- "A reading that is none or ends where it began gives a gap"
abbrev pub entry_of : List ℕ → ℕ → Reading → Piece
entry_of text offset None = gap_at text offset
entry_of text offset (Some f) = cond (eqb f.end 0) (gap_at text offset) (Token f.leaf offset (offset + f.end))

-- "it gives a token (leaf, start, end) and moves to its end", or a gap
abbrev pub scanned_by : Piece → Scanned
scanned_by p = record { answer = Ok (Some p); scan = reading_at (end_of p) }

-- "From an offset below the length .."; "At the length it answers ended"
abbrev pub scan_from : Graph → List ℕ → ℕ → Scanned
scan_from g text offset =
    elim (eqb offset (length text)) [
      | true ↦ record { answer = Ok None; scan = has_ended }
      | false ↦ scanned_by (entry_of text offset (read_graph g (drop offset text)))
    ]

-- 14: "scan offset past the text"
abbrev pub past : List ℕ → Place → Bool
past text (ReadingAt offset) = ltb (length text) offset
past text HasEnded = false

-- 16: "the scan has already answered ended"
abbrev pub over : Place → Bool
over (ReadingAt offset) = false
over HasEnded = true

abbrev pub scan_at : Graph → List ℕ → Place → Scanned
scan_at g text (ReadingAt offset) =
    elim (ltb (length text) offset) [
      | true ↦ record { answer = Err PlanOrOffset; scan = reading_at offset }
      | false ↦ scan_from g text offset
    ]
scan_at g text HasEnded = record { answer = Err ScanEnded; scan = has_ended }

abbrev pub scan_of : Graph → List ℕ → Scan → Scanned
scan_of g text scan = scan_at g text scan.place

-- the call: graph words, text, scan
unfoldable pub next : List ℕ → List ℕ → Scan → Scanned
next graph text scan =
    elim (graph_fits graph) [
      | true ↦ scan_of (graph_from graph) text scan
      | false ↦ record { answer = Err GraphForm; scan = scan }
    ]
