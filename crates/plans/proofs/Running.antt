-- Which plan words a run takes, and what it answers then. Assumes nothing.
use Rattle.std.specs.Prelude.{Some, None}
use mathlib.Core.Path.{◌≡◌, refl, sym, ap, ◌∙◌}
use mathlib.Core.Bool.{Bool, true, false, ◌&&◌}
use mathlib.Core.List.{List}
use mathlib.Core.Logic.{◌⊎◌, inl, inr, ⊎_elim}
use Prim.Native.Nat.{ℕ, ◌+◌, ◌≤◌, ◌<◌}
use native.Mathlib.Omega.{arith}
use borrow.Author.Tests.{lt-ltb, le-ltb, le-leb, ltb-true, ltb-false, leb-true, eq-eqb, ne_eqb}
use lib.Dec.{eqb, leb, ltb}
use lib.ListN.{length, take, drop}
use Rattle.lists.specs.Lists.{eq_list}
use Rattle.lists.proofs.Bools.{Is, is, yes-is, no-is, and_both, and_intro, and-right-false, or_cases, or_left, or_right}
use Rattle.lists.proofs.Elements.{eqb-sound, list-sound}
use Rattle.lists.proofs.Flattened.{all_weaker}
use Rattle.graph_rules.specs.Graph.{Graph, to, graph_from, graph_fits}
use Rattle.graph_rules.specs.Read.{Reading}
use Rattle.classes.specs.Classes.{Class}
use Rattle.mask_store.specs.declared.MaskStore.{MaskStore}
use Rattle.mask_store.specs.Layout.{most_masks}
use Rattle.mask_store.specs.Masks.{held, held_with, grown, takes}
use Rattle.mask_store.proofs.Growth.{grown-same}
use Rattle.mask_store.proofs.Several.{takes-few, count-few}
use Rattle.plan_rules.specs.Plan.{base, table_word, needs, plan_of, plan_words, plan_size}
use Rattle.plan_rules.specs.Run.{self_of, edge_held, row_held, rows_of, run_from, run, is_plan}
use Rattle.runner.specs.Prepared.{PlanOn}
use Rattle.graph_rules.proofs.Flat.{from-length}
use Rattle.graph_rules.proofs.Taken.{taken-root}
use Rattle.words.proofs.GraphWords.{from-edge}
use Rattle.plan_rules.proofs.RunIsWalk.{base-sane, plan-runs}
use Rattle.plan_rules.proofs.Decided.{plan-decided}
use Rattle.std.specs.Prelude.{Result, Ok, Err}
use Prim.Native.Nat.{zero, suc}
use Rattle.refusals.specs.declared.Refusal.{Refusal}
use Rattle.refusals.specs.declared.Refusal.TheVariants.{GraphForm, Store}
use Rattle.refusals.specs.Refusals.{numbered, answered}
use Rattle.plan_rows.specs.Needs.{grown_by}
use Rattle.plan_rows.proofs.Growing.{was-taken, store-grown, was-refused, by-refused}
use Rattle.plans.specs.Run.{plan_refusal, run_refusal, run_call, RunsAlike}
use Rattle.planning.proofs.Planning.{grown-count}

-- ---- a refusal by its number

-- what a call answers that has nothing to tell but that it is not refused
abbrev pub done : Unit {0}
done = tt

pub answered-err : {A B : Type 0} (n : ℕ) (a : A) (b : B) {x : Refusal} → answered n a ≡ Err x → answered n b ≡ Err x
answered-err zero a b e = cc
answered-err (suc n) a b {x} e = let q : numbered (suc n) ≡ x = cc in ap (λ y. Err y) q

pub answered-ok : {A : Type 0} (n : ℕ) (a : A) {b : A} → answered n a ≡ Ok b → n ≡ 0
answered-ok zero a e = refl
answered-ok (suc n) a e = cc

pub refused-not : {A : Type 0} (n : ℕ) (a : A) {x : Refusal} → answered n a ≡ Err x → (n ≡ 0 → ⊥) × (numbered n ≡ x)
refused-not zero a e = cc
refused-not (suc n) a e = (λ z. omega arith, cc)

-- ---- 14, 15, 14 or 0, as they are decided

module _ (g : Graph) (words : List ℕ) (store : MaskStore) where
  abbrev needed : List Class
  needed = needs base g

  -- whether the words begin with the plan that the classes held give
  abbrev begun : Bool
  begun = eq_list eqb (take (plan_size base g) words) (plan_words base (held store) g)

  -- a refusal, as it is answered
  pub told : {n : ℕ} → plan_refusal base g words store ≡ n → answered n done ≡ answered (plan_refusal base g words store) done
  told e = ap (λ (m : ℕ). answered m done) (sym e)

  pub plan-short : length words < plan_size base g → plan_refusal base g words store ≡ 14
  unfolding plan_refusal
  plan-short h = rw (lt-ltb (length words) (plan_size base g) h)

  module _ (long : plan_size base g ≤ length words) where
    pub plan-full : {x : Refusal} → grown_by store needed ≡ Err x → Err x ≡ answered (plan_refusal base g words store) done
    unfolding plan_refusal
    plan-full {x} e =
        let t = was-refused store needed e in
        let q : x ≡ Store = cc (by-refused store needed t) in
        rw (le-ltb (length words) (plan_size base g) long, t) (ap (λ (y : Refusal). Err y) q)

    module _ {after : MaskStore} (made : grown_by store needed ≡ Ok after) where
      is-grown : after ≡ grown store needed
      is-grown = store-grown store needed made

      decided : is_plan base g words store ≡ (eqb after.count store.count && begun)
      decided =
          plan-decided base base-sane g words store (was-taken store needed made) ∙ ap (λ (n : ℕ). eqb n store.count && begun) (sym (grown-count store needed after is-grown))

      no-plan : is_plan base g words store ≡ false → plan_refusal base g words store ≡ 14
      unfolding plan_refusal
      no-plan p = rw (le-ltb (length words) (plan_size base g) long, was-taken store needed made, p)

      pub plan-lacks : (after.count ≡ store.count → ⊥) → plan_refusal base g words store ≡ 14
      plan-lacks n = no-plan (decided ∙ ap (λ (b : Bool). b && begun) (ne_eqb after.count store.count n))

      -- a store whose count did not grow is the same
      module _ (n : after.count ≡ store.count) {b : Bool} (agrees : eq_list eqb (take (plan_size base g) words) (plan_words base (held after) g) ≡ b) where
        told-begun : begun ≡ b
        told-begun =
            let same : after ≡ store = is-grown ∙ grown-same store needed (ap (λ (s : MaskStore). s.count) (sym is-grown) ∙ n) in
            ap (λ (s : MaskStore). eq_list eqb (take (plan_size base g) words) (plan_words base (held s) g)) (sym same) ∙ agrees

        pub plan-differs : b ≡ false → plan_refusal base g words store ≡ 14
        plan-differs e = no-plan (decided ∙ and-right-false (eqb after.count store.count) begun (told-begun ∙ e))

        pub plan-taken : b ≡ true → plan_refusal base g words store ≡ 0
        unfolding plan_refusal
        plan-taken e =
            let p : is_plan base g words store ≡ true = decided ∙ and_intro (eqb after.count store.count) begun (eq-eqb _ _ n) (told-begun ∙ e) in
            rw (le-ltb (length words) (plan_size base g) long, was-taken store needed made, p)

-- ---- words that are taken

pub record Taken (g : Graph) (words : List ℕ) (store : MaskStore) : Type 0 where
  pub long : plan_size base g ≤ length words
  pub room : takes store (needs base g) ≡ true
  pub plan : is_plan base g words store ≡ true

pub taken : (g : Graph) (words : List ℕ) (store : MaskStore) → plan_refusal base g words store ≡ 0 → Taken g words store
unfolding plan_refusal
taken g words store z = go (is (ltb (length words) (plan_size base g))) (is (takes store (needs base g))) (is (is_plan base g words store))
  where
    go : Is (ltb (length words) (plan_size base g)) → Is (takes store (needs base g)) → Is (is_plan base g words store) → Taken g words store
    go (yes-is a) b c = absurd (let n : 14 ≡ 0 = rw a at z in omega arith)
    go (no-is a) (no-is b) c = absurd (let n : 15 ≡ 0 = rw (a, b) at z in omega arith)
    go (no-is a) (yes-is b) (no-is c) = absurd (let n : 14 ≡ 0 = rw (a, b, c) at z in omega arith)
    go (no-is a) (yes-is b) (yes-is c) = record { long = ltb-false _ _ a; room = b; plan = c }

module _ (g : Graph) (words : List ℕ) (store : MaskStore) (t : Taken g words store) where
  few : store.count ≤ most_masks
  few = count-few store (needs base g) t.room

  -- a mask below the count is below the most
  edge-most : (w : ℕ) → edge_held store.count w ≡ true → edge_held most_masks w ≡ true
  edge-most w h =
      ⊎_elim (λ l. let k : w < 2 + store.count = ltb-true _ _ l in or_left (ltb w (2 + most_masks)) _ (lt-ltb w (2 + most_masks) (omega (arith, few))))
      (λ q. or_right (ltb w (2 + most_masks)) (eqb w table_word) q) (or_cases (ltb w (2 + store.count)) _ h)

  row-most : (row : List ℕ) → row_held store.count row ≡ true → row_held most_masks row ≡ true
  row-most row h =
      let b = and_both (leb (self_of row) store.count) _ h in
      let k : self_of row ≤ store.count = leb-true _ _ b.0 in
      and_intro (leb (self_of row) most_masks) _ (le-leb (self_of row) most_masks (omega (arith, few))) (all_weaker (edge_held store.count) (edge_held most_masks) edge-most (drop 1 row) b.1)

  -- what the runner asks of the words
  pub plan-on : PlanOn g words
  unfolding is_plan plan_of
  plan-on =
      let b = and_both (eq_list eqb (take (plan_size base g) words) (plan_of base g store)) _ t.plan in
      record {
        all = held_with store (needs base g);
        few = takes-few store (needs base g) t.room;
        words_are = (list-sound eqb eqb-sound).eq _ _ b.0;
        held = all_weaker (row_held store.count) (row_held most_masks) row-most (rows_of base g words) b.1;
      }

-- of well-formed graph words (refusal 12) a target is a state, and so is the root, or there are none
module _ (graph : List ℕ) (fits : graph_fits graph ≡ true) where
  pub targets-closed : (s c u : ℕ) → to (graph_from graph) s c ≡ Some u → u < length (graph_from graph).states
  targets-closed s c u e = rw (from-length graph) (from-edge graph fits s c u e).3

  pub root-state : ((graph_from graph).root < length (graph_from graph).states) ⊎ (length (graph_from graph).states ≡ 0)
  unfolding graph_from
  root-state = ⊎_elim (λ h. inl (rw (from-length graph) h)) (λ h. inr (from-length graph ∙ h.0)) (taken-root graph fits)

-- every text is run by them as the graph walks it
pub runs-alike : (graph words : List ℕ) (store : MaskStore) → graph_fits graph ≡ true → Taken (graph_from graph) words store → RunsAlike (graph_from graph) words store.tables
unfolding run
runs-alike graph words store fits t text bytes =
    plan-runs base base-sane (graph_from graph) store (targets-closed graph fits) (root-state graph fits) t.room words t.plan text bytes

-- ---- the call

module _ (graph words : List ℕ) (store : MaskStore) where
  run-unfit : graph_fits graph ≡ false → run_refusal base graph words store ≡ 12
  unfolding run_refusal
  run-unfit e = rw e

  run_fits : graph_fits graph ≡ true → run_refusal base graph words store ≡ plan_refusal base (graph_from graph) words store
  unfolding run_refusal
  run_fits e = rw e

  module _ (text : List ℕ) where
    abbrev pub Answers : Result Reading Refusal → Type 0
    Answers r = r ≡ run_call base graph words store text

    pub run-twelve : {x : Refusal} → x ≡ GraphForm → graph_fits graph ≡ false → Answers (Err x)
    unfolding run_call
    run-twelve {x} e f = ap (λ (y : Refusal). Err y) e ∙ ap (λ (n : ℕ). answered n (run base (graph_from graph) words store text)) (sym (run-unfit f))

    -- the graph is read by a view of words w
    module _ (f : graph_fits graph ≡ true) {w : List ℕ} (same : w ≡ graph) where
      pub run-refused : {r : Result (Unit {0}) Refusal} {x : Refusal} → r ≡ answered (plan_refusal base (graph_from w) words store) done → r ≡ Err x → Answers (Err x)
      unfolding run_call
      run-refused {r} {x} q e =
          let p : answered (plan_refusal base (graph_from graph) words store) done ≡ Err x = ap (λ (v : List ℕ). answered (plan_refusal base (graph_from v) words store) done) (sym same) ∙ sym q ∙ e in
          sym
          (ap (λ (n : ℕ). answered n (run base (graph_from graph) words store text)) (run_fits f)
          ∙ answered-err (plan_refusal base (graph_from graph) words store) done (run base (graph_from graph) words store text) p)

      pub run-answers : plan_refusal base (graph_from w) words store ≡ 0 → {r : Reading} → r ≡ run_from (graph_from w) (rows_of base (graph_from w) words) store.tables (graph_from w).root 0 None text
          → Answers (Ok r)
      unfolding run_call run
      run-answers z q =
          let zero-there : plan_refusal base (graph_from graph) words store ≡ 0 = ap (λ (v : List ℕ). plan_refusal base (graph_from v) words store) (sym same) ∙ z in
          ap (λ (x : Reading). Ok x) (q ∙ ap (λ (v : List ℕ). run_from (graph_from v) (rows_of base (graph_from v) words) store.tables (graph_from v).root 0 None text) same)
          ∙ ap (λ (n : ℕ). answered n (run_from (graph_from graph) (rows_of base (graph_from graph) words) store.tables (graph_from graph).root 0 None text)) (sym (run_fits f ∙ zero-there))
