-- What `run` and `scan_planned` tell in numbers: the first refusal that applies, with zeros; or the run's reading, and the number of entries. Assumes
-- nothing.
use mathlib.Core.Path.{◌≡◌, refl, sym, ap, ◌∙◌}
use mathlib.Core.Bool.{Bool, true, false, cond, not}
use mathlib.Core.List.{List, [], ◌∷◌}
use Prim.Native.Nat.{ℕ, zero, suc, ◌/◌, ◌<◌}
use native.Mathlib.Omega.{arith}
use borrow.Author.Tests.{ne_eqb}
use lib.Dec.{eqb, ltb}
use lib.ListN.{length}
use Rattle.refusals.specs.Refusals.{numbered}
use Rattle.refusals.proofs.Numbers.{number-numbered}
use Rattle.lists.specs.Report.{on, lowest, answering, refusing}
use Rattle.lists.proofs.Reports.{lowest-one}
use Rattle.graph_rules.specs.Graph.{Graph, graph_from, graph_fits}
use Rattle.readings.specs.Answers.{read_report}
use Rattle.readings.specs.Report.{read_values}
use Rattle.readings.proofs.Report.{refused-or-read}
use Rattle.mask_store.specs.declared.MaskStore.{MaskStore}
use Rattle.mask_store.specs.Masks.{takes}
use Rattle.plan_rules.specs.Plan.{base, needs, plan_size}
use Rattle.plan_rules.specs.Run.{run, is_plan}
use Rattle.planning.proofs.Report.{three-a-state}
use Rattle.scans.specs.declared.scan.Scan.{Scan}
use Rattle.scans.specs.Scan.{past, over}
use Rattle.scans.specs.List.{entry_size, list_report, list_for, no_list, scan_list}
use Rattle.scans.specs.Report.{scan_refusal}
use Rattle.scans.proofs.Report.{list_tells, scan-list-report}
use Rattle.plans.specs.Run.{plan_refusal, run_refusal, run_call, planned_refusal, planned_list}
use Rattle.plans.specs.Report.{plan_numbers, run_number, planned_number}

module _ (graph words : List ℕ) (store : MaskStore) where
  abbrev g : Graph
  g = graph_from graph

  plan-number : plan_refusal base g words store ≡ lowest (plan_numbers graph words store)
  unfolding plan_refusal
  plan-number =
      go (ltb (length words) (plan_size base g)) (takes store (needs base g)) (is_plan base g words store)
      ∙ ap (λ (n : ℕ). lowest (on (ltb (length words) n) 14 ∷ on (not (takes store (needs base g))) 15 ∷ on (not (is_plan base g words store)) 14 ∷ []))
      (three-a-state g)
    where
      go : (short room own : Bool) → cond short 14 (cond (not room) 15 (cond (not own) 14 0)) ≡ lowest (on short 14 ∷ on (not room) 15 ∷ on (not own) 14 ∷ [])
      go true room own = refl
      go false false own = refl
      go false true false = refl
      go false true true = refl

  run-number : run_refusal base graph words store ≡ run_number graph words store
  unfolding run_refusal run_number
  run-number = go (graph_fits graph)
    where
      go : (fits : Bool) → cond (not fits) 12 (plan_refusal base g words store) ≡ lowest (on (not fits) 12 ∷ plan_numbers graph words store)
      go true = plan-number
      go false = refl

  run-small : run_refusal base graph words store < 17
  unfolding run_refusal plan_refusal
  run-small = go (graph_fits graph) (ltb (length words) (plan_size base g)) (takes store (needs base g)) (is_plan base g words store)
    where
      go : (fits short room own : Bool) → cond (not fits) 12 (cond short 14 (cond (not room) 15 (cond (not own) 14 0))) < 17
      go false short room own = omega arith
      go true true room own = omega arith
      go true false false own = omega arith
      go true false true false = omega arith
      go true false true true = omega arith

  pub run-report : (text : List ℕ)
      → read_report (run_call base graph words store text) ≡ answering (run_number graph words store) (read_values (run base (graph_from graph) words store text))
  unfolding run_call
  run-report text =
      refused-or-read (run_refusal base graph words store) (run base g words store text) run-small
      ∙ ap (λ (n : ℕ). answering n (read_values (run base g words store text))) run-number

  -- ---- the planned scan

  module _ (text : List ℕ) (scan : Scan) where
    -- where the plan is taken, what is left to ask is whether the scan has ended
    planned-number : lowest (planned_refusal base graph words store text scan ∷ scan_refusal graph text scan ∷ []) ≡ planned_number graph words store text scan
    unfolding planned_refusal plan_refusal scan_refusal planned_number
    planned-number =
        go fits far (ltb (length words) (plan_size base g)) room own (over scan.place)
        ∙ ap (λ (n : ℕ). lowest (on (not fits) 12 ∷ on far 14 ∷ on (ltb (length words) n) 14 ∷ on (not room) 15 ∷ on (not own) 14 ∷ on (over scan.place) 16 ∷ []))
        (three-a-state g)
      where
        fits : Bool
        fits = graph_fits graph

        far : Bool
        far = past text scan.place

        room : Bool
        room = takes store (needs base g)

        own : Bool
        own = is_plan base g words store

        go : (fits far short room own ended : Bool)
            → lowest (cond (not fits) 12 (cond far 14 (cond short 14 (cond (not room) 15 (cond (not own) 14 0)))) ∷ lowest (on (not fits) 12 ∷ on far 14 ∷ on ended 16 ∷ []) ∷ [])
            ≡ lowest (on (not fits) 12 ∷ on far 14 ∷ on short 14 ∷ on (not room) 15 ∷ on (not own) 14 ∷ on ended 16 ∷ [])
        go false far short room own ended = refl
        go true true short room own ended = refl
        go true false true room own ended = refl
        go true false false false own ended = refl
        go true false false true false ended = refl
        go true false false true true true = refl
        go true false false true true false = refl

    planned-small : planned_refusal base graph words store text scan < 17
    unfolding planned_refusal plan_refusal
    planned-small = go (graph_fits graph) (past text scan.place) (ltb (length words) (plan_size base g)) (takes store (needs base g)) (is_plan base g words store)
      where
        go : (fits far short room own : Bool) → cond (not fits) 12 (cond far 14 (cond short 14 (cond (not room) 15 (cond (not own) 14 0)))) < 17
        go false far short room own = omega arith
        go true true short room own = omega arith
        go true false true room own = omega arith
        go true false false false own = omega arith
        go true false false true false = omega arith
        go true false false true true = omega arith

    pub planned-report : (buffer : List ℕ)
        → list_report (planned_list base graph words store text scan buffer).listed.answer
        ≡ answering (planned_number graph words store text scan) (length (list_for (graph_from graph) text (length buffer / entry_size) scan).entries ∷ [])
    unfolding planned_list
    planned-report buffer =
        go (planned_refusal base graph words store text scan) planned-small (scan-list-report graph text scan buffer)
        ∙ ap (λ (n : ℕ). answering n (count ∷ [])) planned-number
      where
        count : ℕ
        count = length (list_for g text (length buffer / entry_size) scan).entries

        go : (n : ℕ) → n < 17 → list_tells (scan_list graph text scan buffer) ≡ answering (scan_refusal graph text scan) (count ∷ [])
            → list_tells (elim (eqb n 0) [ true ↦ scan_list graph text scan buffer | false ↦ no_list (numbered n) scan buffer ])
            ≡ answering (lowest (n ∷ scan_refusal graph text scan ∷ [])) (count ∷ [])
        go zero h e = e ∙ ap (λ (m : ℕ). answering m (count ∷ [])) (sym (lowest-one (scan_refusal graph text scan)))
        go (suc n) h e = rw (ne_eqb (suc n) 0 (λ z. omega arith)) (ap (λ (m : ℕ). refusing m 1) (number-numbered n (omega arith)))
