-- What planning answers, once its refusals are decided. Assumes nothing.
use mathlib.Core.Path.{◌≡◌, sym, ap, ◌∙◌}
use mathlib.Core.Bool.{true, false}
use mathlib.Core.List.{List, ◌++◌}
use Prim.Native.Nat.{ℕ, ◌*◌, ◌≤◌, ◌<◌}
use native.Mathlib.Omega.{arith}
use borrow.Author.Tests.{lt-ltb, le-ltb}
use lib.ListN.{length, get_or, drop, length-append}
use Rattle.graph_rules.specs.Graph.{Graph, graph_from, graph_fits}
use Rattle.graph_rules.proofs.Flat.{from-length}
use Rattle.classes.specs.Classes.{Class}
use Rattle.mask_store.specs.declared.MaskStore.{MaskStore}
use Rattle.mask_store.specs.Layout.{store_size}
use Rattle.mask_store.specs.Masks.{held, held_with, grown, takes}
use Rattle.mask_store.proofs.Numbers.{met-split}
use Rattle.mask_store.proofs.MaskLaws.{length-held}
use Rattle.mask_store.proofs.Growth.{held_grown}
use Rattle.mask_store.proofs.Several.{takes-few}
use Rattle.plan_rules.specs.Plan.{base, needs, plan_words, plan_of, plan_size}
use Rattle.plan_rules.proofs.OwnStore.{needs-whole}
use Rattle.refusals.specs.declared.Refusal.TheVariants.{GraphForm, PlanOrOffset, Store}
use Rattle.std.specs.Prelude.{Err}
use Rattle.refusals.specs.declared.Refusal.{Refusal}
use Rattle.plan_rows.specs.Needs.{grown_by}
use Rattle.plan_rows.proofs.Growing.{was-refused, by-refused}
use Rattle.planning.specs.Plan.{PlanCall, no_plan, planned, plan_call}

-- the words that a plan needs, by the number of states that is read
pub size_is : (graph : List ℕ) (n : ℕ) → n ≡ get_or graph 0 0 → plan_size base (graph_from graph) ≡ 3 * n
size_is graph n e = let l = from-length graph in omega arith

-- the classes of a store that has grown
pub grown-count : (store : MaskStore) (cs : List Class) (after : MaskStore) → after ≡ grown store cs → after.count ≡ length (held_with store cs)
unfolding grown
grown-count store cs after e = ap (λ (s : MaskStore). s.count) e

-- ---- the call

module _ (graph out : List ℕ) (store : MaskStore) where
  abbrev g : Graph
  g = graph_from graph

  abbrev needed : List Class
  needed = needs base g

  pub plan-unfit : graph_fits graph ≡ false → plan_call base graph out store ≡ no_plan GraphForm out store
  unfolding plan_call
  plan-unfit e = rw e

  module _ (fits : graph_fits graph ≡ true) where
    pub plan-short : length out < plan_size base g → plan_call base graph out store ≡ no_plan PlanOrOffset out store
    unfolding plan_call
    plan-short h = rw (fits, lt-ltb (length out) (plan_size base g) h)

    module _ (long : plan_size base g ≤ length out) where
      pub plan-full : {x : Refusal} → grown_by store needed ≡ Err x → plan_call base graph out store ≡ no_plan x out store
      unfolding plan_call
      plan-full {x} e =
          let t = was-refused store needed e in
          let r : Store ≡ x = cc (by-refused store needed t) in
          rw (fits, le-ltb (length out) (plan_size base g) long, t) (ap (λ (y : Refusal). no_plan y out store) r)

      module _ (t : takes store needed ≡ true) (after : MaskStore) (e : after ≡ grown store needed) where
        pub after_more : store.count ≤ after.count
        unfolding held_with
        after_more =
            let (m, split) = met-split (held store) needed in
            omega (arith, grown-count store needed after e, ap length split, length-append (held store) m, length-held store)

        module _ (size : length store.tables ≡ store_size) where
          pub plan-made : (wrote : List ℕ) → wrote ≡ plan_words base (held after) g ++ drop (plan_size base g) out
              → plan_call base graph out store ≡ planned store after wrote
          unfolding plan_call plan_of
          plan-made wrote w =
              let h : held after ≡ held_with store needed = ap held e ∙ held_grown store needed size (needs-whole base graph fits) (takes-few store needed t) in
              rw (fits, le-ltb (length out) (plan_size base g) long, t)
              (λ i. planned store (sym e i) (sym (w ∙ ap (λ (l : List Class). plan_words base l g ++ drop (plan_size base g) out) h) i))

-- both parts of an outcome
pub outcome : {x y : PlanCall} → x ≡ y → (y.planning ≡ x.planning) × (y.buffer ≡ x.buffer)
outcome e = (ap (λ (p : PlanCall). p.planning) (sym e), ap (λ (p : PlanCall). p.buffer) (sym e))
