-- Planning, a run and a scan on a store in a caller's block: they are the calls on the block's store, or, where the block is none, on a store that counts
-- 65, which 15 refuses after 12 and 14. Assumes nothing.
use mathlib.Core.Path.{◌≡◌, refl, sym}
use mathlib.Core.Bool.{Bool, true, false}
use mathlib.Core.Logic.{⊎_elim}
use mathlib.Core.List.{List}
use Prim.Native.Nat.{ℕ}
use lib.Dec.{ltb}
use lib.ListN.{length}
use Rattle.std.proofs.lemmas.Bool.{cases_Bool}
use Rattle.graph_rules.specs.Graph.{graph_from, graph_fits}
use Rattle.std.specs.Prelude.{Err}
use Rattle.mask_store.specs.declared.MaskStore.{MaskStore}
use Rattle.mask_store.specs.Masks.{store_of, takes}
use Rattle.plan_rules.specs.Plan.{base, needs, plan_size}
use Rattle.scans.specs.declared.scan.Scan.{Scan}
use Rattle.scans.specs.List.{no_list}
use Rattle.planning.specs.Plan.{PlanCall, plan_report, no_plan, plan_call}
use Rattle.scans.specs.Scan.{past}
use Rattle.plans.specs.Run.{plan_refusal, run_refusal, run_call, planned_refusal, planned_list}
use Rattle.capi.specs.Stores.{store_in}
use Rattle.capi.proofs.HeldStores.{none, none-takes, kept, by-store}
use Rattle.capi.specs.Plans.{no_store, no_store_scan, plan_in, run_in, list_in}

-- ---- the store that stands for a block that is none

module _ (graph plan : List ℕ) where
  abbrev short : Bool
  short = ltb (length plan) (plan_size base (graph_from graph))

  -- by what the calls test of graph words and plan words
  by-tests : {A : Type 0} → (graph_fits graph ≡ false → A) → (graph_fits graph ≡ true → short ≡ true → A) → (graph_fits graph ≡ true → short ≡ false → A) → A
  by-tests a b d = ⊎_elim (λ f. ⊎_elim (b f) (d f) (cases_Bool short)) a (cases_Bool (graph_fits graph))

  none-plan : plan_call base graph plan none ≡ no_plan (no_store graph plan) plan none
  unfolding plan_call no_store
  none-plan = by-tests (λ f. rw f) (λ f s. rw (f, s)) (λ f s. rw (f, s, none-takes (needs base (graph_from graph))))

  none-run : (text : List ℕ) → run_call base graph plan none text ≡ Err (no_store graph plan)
  unfolding run_call run_refusal plan_refusal no_store
  none-run text = by-tests (λ f. rw f) (λ f s. rw (f, s)) (λ f s. rw (f, s, none-takes (needs base (graph_from graph))))

  none_list : (text : List ℕ) (scan : Scan) (buffer : List ℕ)
      → planned_list base graph plan none text scan buffer ≡ no_list (no_store_scan graph plan text scan) scan buffer
  unfolding planned_list planned_refusal plan_refusal no_store_scan
  none_list text scan buffer =
      ⊎_elim
      (λ (p : past text scan.place ≡ true). by-tests (λ f. rw (f, planned_list) (rw f)) (λ f s. rw (f, p, planned_list) (rw (f, p))) (λ f s. rw (f, p, planned_list) (rw (f, p))))
      (λ (p : past text scan.place ≡ false).
      let n = none-takes (needs base (graph_from graph)) in
      by-tests (λ f. rw (f, planned_list) (rw f)) (λ f s. rw (f, p, s, planned_list) (rw (f, p, s))) (λ f s. rw (f, p, s, n, planned_list) (rw (f, p, s, n))))
      (cases_Bool (past text scan.place))

-- ---- a call on a block is the call on its store

module _ (graph plan tables : List ℕ) (count : ℕ) where
  pub run_in_lem : (text : List ℕ) → run_in graph plan tables count text ≡ run_call base graph plan (store_in tables count) text
  unfolding run_in store_in
  run_in_lem text = by-store tables (λ q. rw q) (λ q. rw q (sym (none-run graph plan text)))

  pub list-in : (text : List ℕ) (scan : Scan) (buffer : List ℕ)
      → list_in graph plan tables count text scan buffer ≡ planned_list base graph plan (store_in tables count) text scan buffer
  unfolding list_in store_in
  list-in text scan buffer = by-store tables (λ q. rw q) (λ q. rw q (sym (none_list graph plan text scan buffer)))

  -- `plan`: where the block is none, it is left with its count
  pub plan-held : let p = plan_call base graph plan (store_in tables count) in
      record { planning = record { answer = p.planning.answer; store = kept tables count p.planning.store }; buffer = p.buffer } ≡ plan_in graph plan tables count
  unfolding plan_in store_in
  plan-held = by-store tables (λ q. rw q) (λ q. rw (q, none-plan graph plan))

-- ---- a refusal leaves the plan buffer, the block and the count

-- graph words, plan buffer, store; c is what a call of planning leaves
abbrev Leaves : PlanCall → List ℕ → MaskStore → Type 0
Leaves c plan s = ((plan_report c.planning.answer).refusal ≡ 0 → ⊥) → (c.buffer ≡ plan) × (c.planning.store ≡ s)

call-leaves : (graph plan : List ℕ) (s : MaskStore) → Leaves (plan_call base graph plan s) plan s
unfolding plan_call
call-leaves graph plan s =
    by-tests graph plan (λ f. rw f (λ r. (refl, refl))) (λ f p. rw (f, p) (λ r. (refl, refl)))
    (λ f p. ⊎_elim (λ (t : takes s (needs base (graph_from graph)) ≡ true). rw (f, p, t) (λ r. absurd (r refl))) (λ (t : takes s (needs base (graph_from graph)) ≡ false). rw (f, p, t) (λ r. (refl, refl))) (cases_Bool (takes s (needs base (graph_from graph)))))

pub plan-leaves : (graph plan tables : List ℕ) (count : ℕ) → Leaves (plan_in graph plan tables count) plan (store_of tables count)
unfolding plan_in
plan-leaves graph plan tables count =
    by-store tables (λ q. rw q (call-leaves graph plan (store_of tables count))) (λ q. rw q (λ r. (refl, refl)))
