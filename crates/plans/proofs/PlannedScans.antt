-- What a scan by a plan answers, once its refusals are decided, and the entry that a run of it gives. Assumes nothing.
use mathlib.Core.Path.{◌≡◌, sym, ap, ◌∙◌}
use mathlib.Core.Bool.{true, false}
use mathlib.Core.List.{List}
use Prim.Native.Nat.{ℕ, ◌≤◌}
use borrow.Author.Tests.{ltb-false, eq-eqb, ne_eqb}
use lib.ListN.{length}
use Rattle.lists.proofs.Bools.{Is, is, yes-is, no-is}
use Rattle.graph_rules.specs.Graph.{graph_from, graph_fits}
use Rattle.mask_store.specs.declared.MaskStore.{MaskStore}
use Rattle.plan_rules.specs.Plan.{base}
use Rattle.scans.specs.declared.scan.Place.{Place}
use Rattle.scans.specs.declared.scan.Place.TheVariants.{Reading as ReadingAt, Ended as HasEnded}
use Rattle.scans.specs.declared.scan.Scan.{Scan}
use Rattle.scans.specs.List.{no_list, list_from, scan_list}
use Rattle.scans.specs.Scan.{past}
use Rattle.plans.specs.Run.{plan_refusal, planned_refusal, planned_list}
use Rattle.scans.proofs.ListAnswers.{list_over, list-taken}
use Rattle.std.specs.Prelude.{Result, Err}
use Rattle.refusals.specs.declared.Refusal.{Refusal}
use Rattle.refusals.specs.declared.Refusal.TheVariants.{GraphForm, PlanOrOffset, ScanEnded}
use Rattle.refusals.specs.Refusals.{numbered, answered}
use native.Mathlib.Omega.{arith}
use Rattle.plans.proofs.Running.{Taken, taken, done, refused-not}

-- ---- a place past the text, and one in it

pub past-at : (text : List ℕ) (p : Place) (o : ℕ) → p ≡ ReadingAt o → past text p ≡ false → o ≤ length text
past-at text p o e h = ltb-false _ _ (sym (ap (past text) e) ∙ h)

-- ---- 12, 14, 15, 14 or 0, as they are decided

module _ (graph words : List ℕ) (store : MaskStore) (text : List ℕ) (scan : Scan) where
  pub planned-unfit : graph_fits graph ≡ false → planned_refusal base graph words store text scan ≡ 12
  unfolding planned_refusal
  planned-unfit e = rw e

  pub planned-past : graph_fits graph ≡ true → past text scan.place ≡ true → planned_refusal base graph words store text scan ≡ 14
  unfolding planned_refusal
  planned-past e p = rw (e, p)

  pub planned-in : graph_fits graph ≡ true → past text scan.place ≡ false → planned_refusal base graph words store text scan ≡ plan_refusal base (graph_from graph) words store
  unfolding planned_refusal
  planned-in e p = rw (e, p)

  pub record Scannable : Type 0 where
    pub fits : graph_fits graph ≡ true
    pub inside : past text scan.place ≡ false
    pub plan : Taken (graph_from graph) words store

  pub scannable : planned_refusal base graph words store text scan ≡ 0 → Scannable
  unfolding planned_refusal
  scannable z = go (is (graph_fits graph)) (is (past text scan.place))
    where
      go : Is (graph_fits graph) → Is (past text scan.place) → Scannable
      go (no-is a) b = absurd (let n : 12 ≡ 0 = rw a at z in omega arith)
      go (yes-is a) (yes-is b) = absurd (let n : 14 ≡ 0 = rw (a, b) at z in omega arith)
      go (yes-is a) (no-is b) = record { fits = a; inside = b; plan = taken (graph_from graph) words store (sym (planned-in a b) ∙ z) }

  pub none-refused : graph_fits graph ≡ true → past text scan.place ≡ false → {w : List ℕ} → w ≡ graph → plan_refusal base (graph_from w) words store ≡ 0 → planned_refusal base graph words store text scan ≡ 0
  none-refused f p same z = planned-in f p ∙ ap (λ (v : List ℕ). plan_refusal base (graph_from v) words store) (sym same) ∙ z

  -- ---- the call

  module _ (out : List ℕ) where
    listed : planned_refusal base graph words store text scan ≡ 0 → planned_list base graph words store text scan out ≡ scan_list graph text scan out
    unfolding planned_list
    listed z = rw (eq-eqb (planned_refusal base graph words store text scan) 0 z, planned_list)

    refused : {n : ℕ} → planned_refusal base graph words store text scan ≡ n → (n ≡ 0 → ⊥) → planned_list base graph words store text scan out ≡ no_list (numbered n) scan out
    unfolding planned_list
    refused {n} e z =
        rw (ne_eqb (planned_refusal base graph words store text scan) 0 (λ q. z (sym e ∙ q)), planned_list) (ap (λ (m : ℕ). no_list (numbered m) scan out) e)

    pub planned-twelve : {x : Refusal} → x ≡ GraphForm → graph_fits graph ≡ false → planned_list base graph words store text scan out ≡ no_list x scan out
    planned-twelve e f = refused (planned-unfit f) (λ z. omega arith) ∙ ap (λ (r : Refusal). no_list r scan out) (sym e)

    pub planned-far : graph_fits graph ≡ true → past text scan.place ≡ true → planned_list base graph words store text scan out ≡ no_list PlanOrOffset scan out
    planned-far f p = refused (planned-past f p) (λ z. omega arith)

    -- the graph is read by a view of words w
    module _ (f : graph_fits graph ≡ true) (p : past text scan.place ≡ false) {w : List ℕ} (same : w ≡ graph) where
      pub planned-refused : {r : Result (Unit {0}) Refusal} {x : Refusal} → r ≡ answered (plan_refusal base (graph_from w) words store) done → r ≡ Err x → planned_list base graph words store text scan out ≡ no_list x scan out
      planned-refused {r} {x} d e =
          let k : answered (plan_refusal base (graph_from graph) words store) done ≡ Err x = ap (λ (v : List ℕ). answered (plan_refusal base (graph_from v) words store) done) (sym same) ∙ sym d ∙ e in
          let q = refused-not (plan_refusal base (graph_from graph) words store) done k in
          refused (planned-in f p) q.0 ∙ ap (λ (y : Refusal). no_list y scan out) q.1

      pub planned-over : plan_refusal base (graph_from w) words store ≡ 0 → scan.place ≡ HasEnded → planned_list base graph words store text scan out ≡ no_list ScanEnded scan out
      planned-over z o = listed (none-refused f p same z) ∙ list_over graph text scan.place out f o

    -- nothing refuses it
    module _ (z : planned_refusal base graph words store text scan ≡ 0) where
      abbrev pub ready : Scannable
      ready = scannable z

      pub planned-list : (o : ℕ) → scan.place ≡ ReadingAt o → planned_list base graph words store text scan out ≡ list_from graph text o out
      planned-list o p = listed z ∙ list-taken graph text scan.place out ready.fits o p (past-at text scan.place o p ready.inside)
