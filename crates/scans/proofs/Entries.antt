-- A scan's answer by its place, and that a reading ends in the text. Assumes nothing.
use Rattle.std.specs.Prelude.{Some, None, Ok, Err, IfSome}
use mathlib.Core.Path.{◌≡◌, sym, ap, ◌∙◌}
use mathlib.Core.Bool.{true, false}
use mathlib.Core.List.{List}
use Prim.Native.Nat.{ℕ, ◌+◌, ◌-◌, ◌≤◌, ◌<◌}
use native.Mathlib.Omega.{arith}
use borrow.Author.Rules.{rules}
use borrow.Author.Tests.{eq-eqb, ne_eqb, lt-ltb, le-ltb}
use lib.ListN.{length, take, drop, length-drop}
use lib.Seq.{take_all}
use Rattle.refusals.specs.declared.Refusal.TheVariants.{GraphForm, PlanOrOffset, ScanEnded}
use Rattle.graph_rules.specs.Graph.{Graph, graph_from, graph_fits}
use Rattle.graph_rules.specs.Read.{Reading, read_graph}
use Rattle.scans.specs.declared.scan.Place.{Place}
use Rattle.scans.specs.declared.scan.Place.TheVariants.{Reading as ReadingAt, Ended as HasEnded}
use Rattle.scans.specs.declared.scan.Scan.{Scan}
use Rattle.scans.specs.Scan.{has_ended, entry_of, scanned_by, scan_from, scan_at, scan_of, next}
use Rattle.scans.proofs.Scans.{Upto, nothing, found, reads-upto}

-- the part of a text from an offset on
pub part-is : (text : List ℕ) (at : ℕ) → take (length text - at) (drop at text) ≡ drop at text
part-is text at = take_all (length text - at) (drop at text) (let l = length-drop at text in omega arith)

-- a token ends in the text
pub token-within : (g : Graph) (text : List ℕ) (at : ℕ) → at ≤ length text → IfSome (read_graph g (drop at text)) (λ f. at + f.end ≤ length text)
token-within g text at h = go (read_graph g (drop at text)) (reads-upto g (drop at text))
  where
    go : (r : Reading) → Upto (length (drop at text)) r → IfSome r (λ f. at + f.end ≤ length text)
    go None nothing = search rules
    go (Some f) (found k) = let l = length-drop at text in omega arith

-- ---- the four ways of a scan, by its place

module _ (g : Graph) (text : List ℕ) (p : Place) where
  pub scan-past : (o : ℕ) → p ≡ ReadingAt o → length text < o → scan_at g text p ≡ record { answer = Err PlanOrOffset; scan = record { place = p } }
  scan-past o e h = ap (scan_at g text) e ∙ rw (lt-ltb (length text) o h, scan_at) (ap (λ (q : Place). record { answer = Err PlanOrOffset; scan = record { place = q } }) (sym e))

  pub scan-ends : (o : ℕ) → p ≡ ReadingAt o → o ≡ length text → scan_at g text p ≡ record { answer = Ok None; scan = has_ended }
  scan-ends o e q = ap (scan_at g text) e ∙ rw (le-ltb (length text) o (omega arith), scan_at) (rw (eq-eqb o (length text) q, scan_from))

  pub scan-goes : (o : ℕ) → p ≡ ReadingAt o → o ≤ length text → (o ≡ length text → ⊥) → scan_at g text p ≡ scanned_by (entry_of text o (read_graph g (drop o text)))
  scan-goes o e h n = ap (scan_at g text) e ∙ rw (le-ltb (length text) o h, scan_at) (rw (ne_eqb o (length text) n, scan_from))

  pub scan-over : p ≡ HasEnded → scan_at g text p ≡ record { answer = Err ScanEnded; scan = record { place = p } }
  scan-over e = ap (scan_at g text) e ∙ ap (λ (q : Place). record { answer = Err ScanEnded; scan = record { place = q } }) (sym e)

-- ---- the call

pub next-refused : (graph text : List ℕ) (scan : Scan) → graph_fits graph ≡ false → next graph text scan ≡ record { answer = Err GraphForm; scan = scan }
unfolding next
next-refused graph text scan e = rw (e, next)

pub next-taken : (graph text : List ℕ) (scan : Scan) → graph_fits graph ≡ true → next graph text scan ≡ scan_of (graph_from graph) text scan
unfolding next
next-taken graph text scan e = rw (e, next)
