-- What the list call answers, once its refusals are decided. Assumes nothing.
use Rattle.refusals.specs.declared.Refusal.TheVariants.{GraphForm, PlanOrOffset, ScanEnded}
use mathlib.Core.Path.{◌≡◌, refl, sym, ap, ◌∙◌}
use mathlib.Core.Bool.{true, false}
use mathlib.Core.List.{List}
use Prim.Native.Nat.{ℕ, ◌≤◌, ◌<◌, ◌/◌}
use lib.ListN.{length}
use Rattle.graph_rules.specs.Graph.{Graph, graph_from, graph_fits}
use Rattle.scans.specs.declared.scan.Scan.{Scan}
use Rattle.scans.specs.declared.scan.Scanned.{Scanned}
use Rattle.scans.specs.declared.scan.Place.{Place}
use Rattle.scans.specs.declared.scan.Place.TheVariants.{Reading as ReadingAt, Ended as HasEnded}
use Rattle.scans.specs.Scan.{reading_at, scan_at}
use Rattle.scans.specs.List.{entry_size, ScanList, list_for, no_list, some_list, list_from, unless_refused, scan_list}
use Rattle.scans.proofs.Entries.{scan-past, scan-over}
use Rattle.scans.proofs.Scans.{Step, a-token, a-gap, the_end, scan_step}

-- both parts of an outcome
pub both : {x y : ScanList} → x ≡ y → (y.listed ≡ x.listed) × (y.buffer ≡ x.buffer)
both e = (ap (λ (l : ScanList). l.listed) (sym e), ap (λ (l : ScanList). l.buffer) (sym e))

module _ (graph text : List ℕ) (p : Place) (out : List ℕ) where
  abbrev scan : Scan
  scan = record { place = p }

  pub list-unfit : graph_fits graph ≡ false → scan_list graph text scan out ≡ no_list GraphForm scan out
  unfolding scan_list
  list-unfit e = rw (e, scan_list)

  module _ (fits : graph_fits graph ≡ true) where
    abbrev g : Graph
    g = graph_from graph

    taken : scan_list graph text scan out ≡ unless_refused (scan_at g text p).answer scan out (list_for g text (length out / entry_size) scan)
    unfolding scan_list
    taken = rw (fits, scan_list)

    by_answer : (a : Scanned) → scan_at g text p ≡ a → scan_list graph text scan out ≡ unless_refused a.answer scan out (list_for g text (length out / entry_size) scan)
    by_answer a e = taken ∙ ap (λ (x : Scanned). unless_refused x.answer scan out (list_for g text (length out / entry_size) scan)) e

    pub list-past : (o : ℕ) → p ≡ ReadingAt o → length text < o → scan_list graph text scan out ≡ no_list PlanOrOffset scan out
    list-past o e h = by_answer _ (scan-past g text p o e h)

    pub list_over : p ≡ HasEnded → scan_list graph text scan out ≡ no_list ScanEnded scan out
    list_over e = by_answer _ (scan-over g text p e)

    pub list-taken : (o : ℕ) → p ≡ ReadingAt o → o ≤ length text → scan_list graph text scan out ≡ list_from graph text o out
    unfolding list_from
    list-taken o e h =
        taken
        ∙ ap (λ (q : Place). unless_refused (scan_at g text q).answer scan out (list_for g text (length out / entry_size) (record { place = q }))) e
        ∙ go (scan_at g text (ReadingAt o)) (scan_step g text o h)
      where
        go : (a : Scanned) → Step text o a
            → unless_refused a.answer scan out (list_for g text (length out / entry_size) (reading_at o)) ≡ some_list (list_for g text (length out / entry_size) (reading_at o)) out
        go a (a-token x y) = refl
        go a (a-gap x y) = refl
        go a (the_end x) = refl
