-- What `next` and `scan_list` tell in numbers: the lowest refusal that applies, with zeros; or the token, the gap or the end that the scan comes to,
-- and the number of entries. Assumes nothing.
use Rattle.std.specs.Prelude.{None, Ok, Err}
use mathlib.Core.Path.{◌≡◌, refl}
use mathlib.Core.Bool.{Bool, true, false, cond, not}
use mathlib.Core.List.{List, [], ◌∷◌}
use Prim.Native.Nat.{ℕ, ◌/◌}
use lib.Dec.{eqb, ltb}
use lib.ListN.{length, drop}
use Rattle.lists.specs.Report.{Report, reporting, on, lowest, answering}
use Rattle.lists.proofs.Reports.{refusing-as}
use Rattle.refusals.specs.declared.Refusal.TheVariants.{GraphForm, PlanOrOffset}
use Rattle.graph_rules.specs.Graph.{Graph, graph_from, graph_fits}
use Rattle.graph_rules.specs.Read.{read_graph}
use Rattle.scans.specs.declared.scan.Place.{Place}
use Rattle.scans.specs.declared.scan.Place.TheVariants.{Reading as ReadingAt, Ended as HasEnded}
use Rattle.scans.specs.declared.scan.Scan.{Scan}
use Rattle.scans.specs.declared.scan.Piece.{Piece}
use Rattle.scans.specs.declared.scan.Piece.TheVariants.{Token, Gap}
use Rattle.scans.specs.declared.scan.Scanned.{Scanned}
use Rattle.scans.specs.Scan.{reading_at, has_ended, scan_report, entry_of, scanned_by, scan_from, past, over, scan_at, scan_of, next}
use Rattle.scans.specs.List.{entry_size, Listing, ScanList, list_report, list_for, no_list, unless_refused, scan_list}
use Rattle.scans.specs.Report.{scan_refusal, entry_values, scan_values}

-- ---- one call

abbrev tells : Scanned → Report
tells s = scan_report s.answer

entry-values : (p : Piece) → length (entry_values p) ≡ 4
entry-values (Token leaf start end) = refl
entry-values (Gap start end) = refl

entry-report : (p : Piece) → scan_report (scanned_by p).answer ≡ reporting (entry_values p)
entry-report (Token leaf start end) = refl
entry-report (Gap start end) = refl

module _ (g : Graph) (text : List ℕ) where
  from-report : (offset : ℕ) → scan_report (scan_from g text offset).answer ≡ reporting (scan_values g text (ReadingAt offset))
  unfolding scan_values
  from-report offset = go (eqb offset (length text))
    where
      p : Piece
      p = entry_of text offset (read_graph g (drop offset text))

      go : (end : Bool)
          → tells (elim end [ true ↦ record { answer = Ok None; scan = has_ended } | false ↦ scanned_by p ])
          ≡ reporting (cond end (0 ∷ 0 ∷ 0 ∷ 0 ∷ []) (entry_values p))
      go true = refl
      go false = entry-report p

  four-values : (place : Place) → length (scan_values g text place) ≡ 4
  unfolding scan_values
  four-values (ReadingAt offset) = go (eqb offset (length text))
    where
      go : (end : Bool) → length (cond end (0 ∷ 0 ∷ 0 ∷ 0 ∷ []) (entry_values (entry_of text offset (read_graph g (drop offset text))))) ≡ 4
      go true = refl
      go false = entry-values (entry_of text offset (read_graph g (drop offset text)))
  four-values HasEnded = refl

  -- of well-formed graph words (refusal 12)
  place-report : (place : Place) → scan_report (scan_at g text place).answer ≡ answering (lowest (on (past text place) 14 ∷ on (over place) 16 ∷ [])) (scan_values g text place)
  place-report (ReadingAt offset) = go (ltb (length text) offset)
    where
      go : (far : Bool)
          → tells (elim far [ true ↦ record { answer = Err PlanOrOffset; scan = reading_at offset } | false ↦ scan_from g text offset ])
          ≡ answering (lowest (on far 14 ∷ 0 ∷ [])) (scan_values g text (ReadingAt offset))
      go true = refusing-as 13 4 (scan_values g text (ReadingAt offset)) (four-values (ReadingAt offset))
      go false = from-report offset
  place-report HasEnded = refusing-as 15 4 (scan_values g text HasEnded) (four-values HasEnded)

pub next-report : (graph text : List ℕ) (scan : Scan)
    → scan_report (next graph text scan).answer ≡ answering (scan_refusal graph text scan) (scan_values (graph_from graph) text scan.place)
unfolding next scan_refusal
next-report graph text scan = go (graph_fits graph)
  where
    g : Graph
    g = graph_from graph

    go : (fits : Bool)
        → tells (elim fits [ true ↦ scan_of g text scan | false ↦ record { answer = Err GraphForm; scan = scan } ])
        ≡ answering (lowest (on (not fits) 12 ∷ on (past text scan.place) 14 ∷ on (over scan.place) 16 ∷ [])) (scan_values g text scan.place)
    go true = place-report g text scan.place
    go false = refusing-as 11 4 (scan_values g text scan.place) (four-values g text scan.place)

-- ---- a list of its answers: refused as its first call is

module _ (g : Graph) (text : List ℕ) (scan : Scan) (buffer : List ℕ) (l : Listing) where
  abbrev listed_after : Scanned → Report
  listed_after s = list_report (unless_refused s.answer scan buffer l).listed.answer

  from-listed : (offset : ℕ) → listed_after (scan_from g text offset) ≡ reporting (length l.entries ∷ [])
  from-listed offset = go (eqb offset (length text)) (entry_of text offset (read_graph g (drop offset text)))
    where
      go : (end : Bool) (p : Piece)
          → listed_after (elim end [ true ↦ record { answer = Ok None; scan = has_ended } | false ↦ scanned_by p ])
          ≡ reporting (length l.entries ∷ [])
      go true p = refl
      go false p = refl

  place-listed : (place : Place) → listed_after (scan_at g text place) ≡ answering (lowest (on (past text place) 14 ∷ on (over place) 16 ∷ [])) (length l.entries ∷ [])
  place-listed (ReadingAt offset) = go (ltb (length text) offset)
    where
      go : (far : Bool)
          → listed_after (elim far [ true ↦ record { answer = Err PlanOrOffset; scan = reading_at offset } | false ↦ scan_from g text offset ])
          ≡ answering (lowest (on far 14 ∷ 0 ∷ [])) (length l.entries ∷ [])
      go true = refl
      go false = from-listed offset
  place-listed HasEnded = refl

abbrev pub list_tells : ScanList → Report
list_tells s = list_report s.listed.answer

pub scan-list-report : (graph text : List ℕ) (scan : Scan) (buffer : List ℕ)
    → list_report (scan_list graph text scan buffer).listed.answer
    ≡ answering (scan_refusal graph text scan) (length (list_for (graph_from graph) text (length buffer / entry_size) scan).entries ∷ [])
unfolding scan_list scan_refusal
scan-list-report graph text scan buffer = go (graph_fits graph)
  where
    g : Graph
    g = graph_from graph

    l : Listing
    l = list_for g text (length buffer / entry_size) scan

    go : (fits : Bool)
        → list_tells (elim fits [ true ↦ unless_refused (scan_of g text scan).answer scan buffer l | false ↦ no_list GraphForm scan buffer ])
        ≡ answering (lowest (on (not fits) 12 ∷ on (past text scan.place) 14 ∷ on (over scan.place) 16 ∷ [])) (length l.entries ∷ [])
    go true = place-listed g text scan buffer l scan.place
    go false = refl
