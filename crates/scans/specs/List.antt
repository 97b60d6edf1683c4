-- A text scanned into a lent buffer: the answers of repeated calls of the scan, three words an entry. Definitions only.
use Rattle.std.specs.Prelude.{true, false, ℕ, zero, suc, ◌/◌, ◌<◌, length, drop, Option, Some, None, Result, Ok, Err}
use mathlib.Core.List.{List, [], ◌∷◌, ◌++◌, flat_map}
use Rattle.lists.specs.Report.{Report}
use Rattle.refusals.specs.declared.Refusal.{Refusal}
use Rattle.refusals.specs.declared.Refusal.TheVariants.{GraphForm}
use Rattle.refusals.specs.Refusals.{report}
use Rattle.graph_rules.specs.Graph.{Graph, graph_from, graph_fits}
use Rattle.scans.specs.declared.scan.Scan.{Scan}
use Rattle.scans.specs.declared.scan.Piece.{Piece}
use Rattle.scans.specs.declared.scan.Piece.TheVariants.{Token, Gap}
use Rattle.scans.specs.declared.list.Listed.{Listed}
use Rattle.scans.specs.Scan.{reading_at, scan_of, next}

-- the words of an entry: start, end, and leaf or, of a gap, 65,535
abbrev pub entry_size : ℕ
entry_size = 3

abbrev pub gap_word : ℕ
gap_word = 65535

abbrev pub entry_words : Piece → List ℕ
entry_words (Token leaf start end) = start ∷ end ∷ leaf ∷ []
entry_words (Gap start end) = start ∷ end ∷ gap_word ∷ []

-- entries, and the scan after them
pub record Listing : Type 0 where
  pub entries : List Piece
  pub scan : Scan

abbrev pub one_more : Piece → Listing → Listing
one_more p l = record { entries = p ∷ l.entries; scan = l.scan }

-- after an answer that is a token or a gap the calls go on
abbrev pub go_on : (Scan → Listing) → Result (Option Piece) Refusal → Scan → Listing
go_on more (Ok (Some p)) scan = one_more p (more scan)
go_on more (Ok None) scan = record { entries = []; scan = scan }
go_on more (Err r) scan = record { entries = []; scan = scan }

-- the tokens and gaps of repeated calls, at most k, and the scan after the last call
abbrev pub list_for : Graph → List ℕ → ℕ → Scan → Listing
list_for g text zero scan = record { entries = []; scan = scan }
list_for g text (suc k) scan = let a = scan_of g text scan in go_on (λ s. list_for g text k s) a.answer a.scan

-- the same of calls of `next`, on graph words
abbrev pub calls_for : List ℕ → List ℕ → ℕ → Scan → Listing
calls_for graph text zero scan = record { entries = []; scan = scan }
calls_for graph text (suc k) scan = let a = next graph text scan in go_on (λ s. calls_for graph text k s) a.answer a.scan

-- tokens and gaps that run end to end from a to b, none of them empty
pub data EndToEnd : ℕ → ℕ → List Piece → Type 0 where
  no_more : {a : ℕ} → EndToEnd a a []
  token-first : {a e b leaf : ℕ} {rest : List Piece} → a < e → EndToEnd e b rest → EndToEnd a b (Token leaf a e ∷ rest)
  gap-first : {a e b : ℕ} {rest : List Piece} → a < e → EndToEnd e b rest → EndToEnd a b (Gap a e ∷ rest)

unfoldable pub list_words : Listing → List ℕ
list_words l = flat_map entry_words l.entries

abbrev pub listed_by : Listing → Listed
listed_by l = record { answer = Ok (length l.entries); scan = l.scan }

-- ---- the call: graph words, text, scan, buffer. As many entries as there is room for; a refusal of the scan is the call's.

pub record ScanList : Type 0 where
  pub listed : Listed
  pub buffer : List ℕ

-- in numbers: the number of entries
abbrev pub list_report : Result ℕ Refusal → Report
list_report a = report (λ n. n ∷ []) 1 a

abbrev pub no_list : Refusal → Scan → List ℕ → ScanList
no_list r scan buffer = record { listed = record { answer = Err r; scan = scan }; buffer = buffer }

abbrev pub some_list : Listing → List ℕ → ScanList
some_list l buffer = record { listed = listed_by l; buffer = list_words l ++ drop (length (list_words l)) buffer }

-- from an offset on, as many entries as the buffer has room for
unfoldable pub list_from : List ℕ → List ℕ → ℕ → List ℕ → ScanList
list_from graph text from buffer = some_list (list_for (graph_from graph) text (length buffer / entry_size) (reading_at from)) buffer

abbrev pub unless_refused : Result (Option Piece) Refusal → Scan → List ℕ → Listing → ScanList
unless_refused (Ok a) scan buffer l = some_list l buffer
unless_refused (Err r) scan buffer l = no_list r scan buffer

unfoldable pub scan_list : List ℕ → List ℕ → Scan → List ℕ → ScanList
scan_list graph text scan buffer =
    elim (graph_fits graph) [
      | true ↦ let g = graph_from graph in unless_refused (scan_of g text scan).answer scan buffer (list_for g text (length buffer / entry_size) scan)
      | false ↦ no_list GraphForm scan buffer
    ]
