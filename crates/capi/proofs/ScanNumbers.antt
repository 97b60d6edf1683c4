-- A scan's number tells the scan, and a call that refuses leaves it unchanged: each refusal of `next`, of `scan_list` and of `scan_planned` hands back
-- the scan that came in, whose number is the one that came in. Assumes nothing.
use mathlib.Core.Path.{◌≡◌, refl, sym, ap, ◌∙◌}
use mathlib.Core.List.{List}
use Prim.Native.Nat.{ℕ, ◌/◌, ◌<◌}
use native.Mathlib.Omega.{arith}
use borrow.Author.Tests.{eqb-true, ne_eqb}
use lib.Dec.{eqb, ltb}
use lib.ListN.{length}
use Rattle.lists.specs.Report.{Report}
use Rattle.lists.proofs.Bools.{Is, yes-is, no-is, is}
use Rattle.graph_rules.specs.Graph.{Graph, graph_fits, graph_from}
use Rattle.scans.specs.declared.scan.Place.{Place}
use Rattle.scans.specs.declared.scan.Place.TheVariants.{Reading, Ended}
use Rattle.scans.specs.declared.scan.Scan.{Scan}
use Rattle.std.specs.Prelude.{Option, Result, Ok, Err}
use Rattle.refusals.specs.declared.Refusal.{Refusal}
use Rattle.scans.specs.declared.scan.Piece.{Piece}
use Rattle.scans.specs.Scan.{reading_at, has_ended, scan_report, scan_from, scan_at, scan_of as scannedOf, next}
use Rattle.mask_store.specs.declared.MaskStore.{MaskStore}
use Rattle.plan_rules.specs.Plan.{base}
use Rattle.scans.specs.List.{entry_size, Listing, ScanList, list_for, list_report, unless_refused, scan_list}
use Rattle.plans.specs.Run.{planned_refusal, planned_list}
use Rattle.capi.specs.Plans.{list_in}
use Rattle.capi.specs.Scans.{ended, scan_of, number_of}
use Rattle.capi.specs.Stores.{store_in}
use Rattle.capi.proofs.HeldPlans.{list-in}

-- ---- number to scan and back

pub number-back : (n : ℕ) → number_of (scan_of n) ≡ n
unfolding scan_of
number-back n = go (is (eqb n ended))
  where
    go : Is (eqb n ended) → number_of (scan_of n) ≡ n
    go (yes-is q) = rw q (sym (eqb-true n ended q))
    go (no-is q) = rw q

-- an offset in a text is below the greatest `size_t`
pub reading-back : (offset : ℕ) → offset < ended → scan_of (number_of (reading_at offset)) ≡ reading_at offset
unfolding scan_of
reading-back offset h = rw (ne_eqb offset ended (λ e. omega arith))

pub ended-back : scan_of (number_of has_ended) ≡ has_ended
unfolding scan_of
ended-back = refl

-- ---- a refusal leaves the scan

abbrev Refuses : Report → Type 0
Refuses t = t.refusal ≡ 0 → ⊥

from-answers : (g : Graph) (text : List ℕ) (offset : ℕ) → (scan_report (scan_from g text offset).answer).refusal ≡ 0
from-answers g text offset = go (is (eqb offset (length text)))
  where
    go : Is (eqb offset (length text)) → (scan_report (scan_from g text offset).answer).refusal ≡ 0
    go (yes-is q) = rw (q, scan_from)
    go (no-is q) = rw (q, scan_from)

place-keeps : (g : Graph) (text : List ℕ) (p : Place) → Refuses (scan_report (scan_at g text p).answer) → (scan_at g text p).scan ≡ record { place = p }
place-keeps g text Ended refused = refl
place-keeps g text (Reading offset) refused = go (is (ltb (length text) offset))
  where
    go : Is (ltb (length text) offset) → (scan_at g text (Reading offset)).scan ≡ reading_at offset
    go (yes-is q) = rw (q, scan_at)
    go (no-is q) = absurd (refused (rw (q, scan_at) (from-answers g text offset)))

next-keeps : (graph text : List ℕ) (s : Scan) → Refuses (scan_report (next graph text s).answer) → (next graph text s).scan ≡ s
unfolding next
next-keeps graph text s refused = go (is (graph_fits graph))
  where
    go : Is (graph_fits graph) → (next graph text s).scan ≡ s
    go (yes-is q) = rw (q, next) (place-keeps (graph_from graph) text s.place (rw (q, next) at refused))
    go (no-is q) = rw (q, next)

list-keeps : (graph text buffer : List ℕ) (s : Scan) → Refuses (list_report (scan_list graph text s buffer).listed.answer) → (scan_list graph text s buffer).listed.scan ≡ s
unfolding scan_list
list-keeps graph text buffer s refused = go (is (graph_fits graph))
  where
    told : (a : Result (Option Piece) Refusal) (l : Listing) → Refuses (list_report (unless_refused a s buffer l).listed.answer) → (unless_refused a s buffer l).listed.scan ≡ s
    told (Ok a) l r = absurd (r refl)
    told (Err n) l r = refl

    go : Is (graph_fits graph) → (scan_list graph text s buffer).listed.scan ≡ s
    go (yes-is q) = rw (q, scan_list) (told (scannedOf (graph_from graph) text s).answer (list_for (graph_from graph) text (length buffer / entry_size) s) (rw (q, scan_list) at refused))
    go (no-is q) = rw (q, scan_list)

planned-keeps : (graph plan text buffer : List ℕ) (store : MaskStore) (s : Scan)
    → Refuses (list_report (planned_list base graph plan store text s buffer).listed.answer) → (planned_list base graph plan store text s buffer).listed.scan ≡ s
unfolding planned_list
planned-keeps graph plan text buffer store s refused = go (is (eqb (planned_refusal base graph plan store text s) 0))
  where
    go : Is (eqb (planned_refusal base graph plan store text s) 0) → (planned_list base graph plan store text s buffer).listed.scan ≡ s
    go (yes-is q) = rw (q, planned_list) (list-keeps graph text buffer s (rw (q, planned_list) at refused))
    go (no-is q) = rw (q, planned_list)

-- ---- and so its number

pub next-leaves : (graph text : List ℕ) (n : ℕ) → Refuses (scan_report (next graph text (scan_of n)).answer) → number_of (next graph text (scan_of n)).scan ≡ n
next-leaves graph text n refused = ap number_of (next-keeps graph text (scan_of n) refused) ∙ number-back n

pub list-leaves : (graph text buffer : List ℕ) (n : ℕ) → Refuses (list_report (scan_list graph text (scan_of n) buffer).listed.answer)
    → number_of (scan_list graph text (scan_of n) buffer).listed.scan ≡ n
list-leaves graph text buffer n refused = ap number_of (list-keeps graph text buffer (scan_of n) refused) ∙ number-back n

pub planned-leaves : (graph plan tables : List ℕ) (count : ℕ) (text buffer : List ℕ) (n : ℕ)
    → Refuses (list_report (list_in graph plan tables count text (scan_of n) buffer).listed.answer) → number_of (list_in graph plan tables count text (scan_of n) buffer).listed.scan ≡ n
planned-leaves graph plan tables count text buffer n refused =
    let e = list-in graph plan tables count text (scan_of n) buffer in
    ap (λ (l : ScanList). number_of l.listed.scan) e
    ∙ ap number_of (planned-keeps graph plan text buffer (store_in tables count) (scan_of n) (λ z. refused (ap (λ (l : ScanList). (list_report l.listed.answer).refusal) e ∙ z)))
    ∙ number-back n
