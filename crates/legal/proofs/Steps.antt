-- The steps of a legal table, on its words: what leads from a state to which, and what a closed set of states is (rule 2). Assumes nothing.
use mathlib.Core.Path.{◌≡◌, refl, sym, ap, subst, ◌∙◌}
use mathlib.Core.Bool.{Bool, true, false}
use mathlib.Core.List.{List, ◌++◌}
use Prim.Native.Nat.{ℕ, ◌-◌, ◌<◌}
use native.Mathlib.Omega.{arith}
use borrow.Author.Tests.{eq-eqb, eqb-true}
use lib.Dec.{eqb}
use lib.ListN.{length, get_or, replicate}
use Rattle.lists.specs.Sets.{In, Reach, closure, from-seed, by-edge}
use Rattle.lists.proofs.Any.{any_at, any_found}
use Rattle.lists.proofs.Closure.{closure-is, closure-sound, closure-complete, reach-below}
use Rattle.lists.proofs.Padding.{padded}
use Rattle.lists.proofs.Worklist.{AllIn}
use Rattle.graph_rules.specs.Table.{table_of, row_of, size, step, refusal}
use Rattle.graph_rules.specs.Build.{steps_to, reached}
use Rattle.graph_rules.proofs.Flat.{step-word}
use Rattle.graph_rules.proofs.Counts.{size_is, row-width, reached-size}
use Rattle.legal.specs.Conditions.{states, target_word}
use Rattle.legal.proofs.Legal.{legal-means}
use Rattle.graph_rules.specs.Layout.{step_count, most_states}

-- a state is reached from the start
abbrev pub Found : List ℕ → ℕ → ℕ → Type 0
Found w start = Reach (steps_to (table_of w)) (states w) (eqb start)

module _ (w : List ℕ) (legal : refusal w ≡ 0) where
  step-edge : (s c : ℕ) → s < states w → c < step_count → steps_to (table_of w) s (target_word w s c) ≡ true
  unfolding step
  step-edge s c h b =
      let l = row-width w (legal-means w legal).sized.exact s h in
      any_at (eqb (target_word w s c)) 0 (row_of (table_of w) s).steps c (omega arith) (eq-eqb (target_word w s c) _ (sym (step-word w s c h b)))

  edge-step : (s u : ℕ) → s < states w → steps_to (table_of w) s u ≡ true → (c : ℕ) × (c < step_count) × (target_word w s c ≡ u)
  unfolding step
  edge-step s u h e =
      let (c, b, q) = any_found (eqb u) 0 (row_of (table_of w) s).steps e in
      let l = row-width w (legal-means w legal).sized.exact s h in
      let b' : c < step_count = omega arith in
      (c, b', sym (step-word w s c h b') ∙ sym (eqb-true u _ q))

  module _ (start : ℕ) (below : start < states w) where
    pub found-start : Found w start start
    found-start = from-seed below (eq-eqb start start refl)

    pub found_below : (s : ℕ) → Found w start s → s < states w
    found_below s r = reach-below (steps_to (table_of w)) (states w) (eqb start) s r

    pub found-step : (s c : ℕ) → Found w start s → c < step_count → Found w start (target_word w s c)
    found-step s c r b =
        by-edge r ((legal-means w legal).targets s c (found_below s r) b) (step-edge s c (found_below s r) b)

    -- a set that holds the start and, of each member, every target, and nothing but what is reached
    pub reached-is : (out : List Bool) → length out ≡ most_states → In out start → ((s : ℕ) → In out s → AllIn (target_word w s) out step_count)
        → ((s : ℕ) → In out s → Found w start s) → out ≡ reached (table_of w) start ++ replicate (most_states - states w) false
    unfolding reached
    reached-is out len has closed only =
        let n = (legal-means w legal).sized.few-states in
        let l = reached-size w start in
        padded false out (reached (table_of w) start) most_states len (omega arith)
        (λ i. closure-is (steps_to (table_of w)) (states w) (eqb start) out
        (λ u h e. subst (In out) (eqb-true start u e) has)
        (λ s u i h e. let (c, b, q) = edge-step s u (found_below s (only s i)) e in subst (In out) q (closed s i c b))
        only i
        ∙ ap (λ (k : ℕ). get_or (closure (steps_to (table_of w)) k (eqb start)) i false) (sym (size_is w)))
        ∙ ap (λ (k : ℕ). reached (table_of w) start ++ replicate (most_states - k) false) l

    -- the list that computes, and the predicate
    pub in-found : (s : ℕ) → In (reached (table_of w) start) s → Found w start s
    unfolding reached
    in-found s h =
        subst (λ (n : ℕ). Reach (steps_to (table_of w)) n (eqb start) s) (size_is w) (closure-sound (steps_to (table_of w)) (size (table_of w)) (eqb start) s h)

    pub found_in : (s : ℕ) → Found w start s → In (reached (table_of w) start) s
    unfolding reached
    found_in s r =
        closure-complete (steps_to (table_of w)) (size (table_of w)) (eqb start) s
        (subst (λ (n : ℕ). Reach (steps_to (table_of w)) n (eqb start) s) (sym (size_is w)) r)
