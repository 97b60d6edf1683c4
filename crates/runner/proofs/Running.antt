-- One turn of the run of a text by a plan: the self run, the marks, the byte that leads on or the end step.
-- Assumes nothing.
use Rattle.std.specs.Prelude.{Option, Some, None}
use mathlib.Core.Path.{◌≡◌, sym, ap, subst, ◌∙◌}
use mathlib.Core.Bool.{true, false}
use mathlib.Core.List.{List, []}
use Prim.Native.Nat.{ℕ, suc, ◌+◌, ◌≤◌, ◌<◌}
use native.Mathlib.Omega.{arith}
use native.Mathlib.Numerals.{add-one}
use lib.ListN.{length, get_or, drop, drop_of_length-le}
use lib.Seq.{drop-cons}
use Rattle.lists.specs.Lists.{pieces}
use Rattle.graph_rules.specs.Layout.{end_step}
use Rattle.graph_rules.specs.Graph.{Graph, to, accept_of, early_of, graph_from}
use Rattle.std.specs.Option.{option_or}
use Rattle.graph_rules.specs.Read.{graph_walker, Reading, late, mark, onward}
use Rattle.graph_rules.proofs.Flat.{from-length}
use Rattle.plan_rules.specs.Plan.{base, row_size, own_place}
use Rattle.plan_rules.specs.Run.{self_of, self_takes, led_by, run_from, rows_of}
use Rattle.plan_rules.proofs.RunIsWalk.{empty_runs}
use Rattle.runner.proofs.SelfRun.{self-passes}
use Rattle.runner.specs.Prepared.{PlanOn}
use Rattle.runner.proofs.OnPlan.{self-word}

-- what the end step from state s records, k bytes passed
abbrev ends : Graph → ℕ → ℕ → Reading → Reading
ends g s k q = onward q (λ u. late (accept_of g u) (suc k) q) (to g s end_step)

-- the record at a state, as it is read: that of its marks, or else the one before
pub marked : (graph : List ℕ) (s j : ℕ) (m r q : Reading) → (graph_walker (graph_from graph)).enter s j r ≡ option_or m r → q ≡ option_or m r
    → q ≡ mark (early_of (graph_from graph) s) (accept_of (graph_from graph) s) j r
unfolding graph_walker
marked graph s j m r q e f = f ∙ sym e

-- ---- the run

module _ (graph words tables text : List ℕ) where
  abbrev g : Graph
  g = graph_from graph

  abbrev rows : List (List ℕ)
  rows = rows_of base g words

  -- the run that is left, from state s after k bytes with the record r
  unfoldable pub rest : ℕ → ℕ → Reading → Reading
  rest s k r = run_from g rows tables s k r (drop k text)

  pub rest-start : (s : ℕ) → s ≡ get_or graph 1 0 → rest s 0 None ≡ run_from g rows tables g.root 0 None text
  unfolding rest graph_from
  rest-start s e = ap (λ (x : ℕ). run_from g rows tables x 0 None text) e

  pub no-states : get_or graph 0 0 ≡ 0 → None ≡ run_from g rows tables g.root 0 None text
  unfolding rows_of
  no-states e =
      let z : length g.states ≡ 0 = from-length graph ∙ e in
      sym (ap (λ (m : ℕ). run_from g (pieces (row_size base) m words) tables g.root 0 None text) z ∙ empty_runs g z tables text)

  module _ (p : ∥ PlanOn g words ∥₁) (R : Reading) (s : ℕ) (here : s < get_or graph 0 0) where
    inside : s < length g.states
    inside = subst (λ (n : ℕ). s < n) (sym (from-length graph)) here

    -- k bytes passed before the self run, j after it; r the record before, q the one after
    module _ (k j : ℕ) (r q : Reading) (inv : rest s k r ≡ R) (l : k ≤ j) (within : j ≤ length text)
        (passes : (i : ℕ) → i < j → k ≤ i → self_takes tables (get_or words (own_place base s) 0) (get_or text i 0) ≡ true)
        (marked : q ≡ mark (early_of g s) (accept_of g s) j r) where
      after : rest s j r ≡ R
      unfolding rest
      after = sym (self-passes g rows tables text s _ (self-word g words p s inside) k j r l within passes) ∙ inv

      pub run_ends : j ≡ length text → ends g s j q ≡ R
      unfolding rest
      run_ends d =
          let z : length text ≤ j = omega arith in
          let e : rest s j r ≡ ends g s j (mark (early_of g s) (accept_of g s) j r) = rw (drop_of_length-le text z) in
          ap (ends g s j) marked ∙ sym e ∙ after

      module _ (more : j < length text) (stops : self_takes tables (get_or words (own_place base s) 0) (get_or text j 0) ≡ false)
          (o : Option ℕ) (led : o ≡ led_by g (get_or rows s []) tables s (get_or text j 0)) where
        turn : onward q (λ u. rest u (suc j) q) o ≡ R
        unfolding rest
        turn =
            let f : self_takes tables (self_of (get_or rows s [])) (get_or text j 0) ≡ false =
            ap (λ (x : ℕ). self_takes tables x (get_or text j 0)) (self-word g words p s inside) ∙ stops in
            let d : rest s j r ≡ onward (mark (early_of g s) (accept_of g s) j r) (λ u. rest u (suc j) (mark (early_of g s) (accept_of g s) j r)) (led_by g (get_or rows s []) tables s (get_or text j 0)) =
            rw (drop-cons text j 0 more, f, run_from) in
            ap (onward q (λ u. rest u (suc j) q)) led
            ∙ ap (λ (x : Reading). onward x (λ u. rest u (suc j) x) (led_by g (get_or rows s []) tables s (get_or text j 0))) marked
            ∙ sym d ∙ after

        pub run-stops : o ≡ None → q ≡ R
        run-stops e = ap (onward q (λ u. rest u (suc j) q)) (sym e) ∙ turn

        pub run-goes : {t : ℕ} → o ≡ Some t → rest t (j + 1) q ≡ R
        run-goes {t} e = ap (λ (x : ℕ). rest t x q) (add-one j) ∙ ap (onward q (λ u. rest u (suc j) q)) (sym e) ∙ turn
