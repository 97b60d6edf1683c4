-- Legal words both ways (`legal-means`, `legal-shown`): refusal 0 says of the flat words what `Legal` says, and words that are `Legal` are not refused.
-- The lowest condition that is broken is the refusal (`refused`). Assumes nothing.
use Rattle.std.specs.Prelude.{◌||◌}
use mathlib.Core.Path.{◌≡◌, refl, sym, ap, ◌∙◌}
use mathlib.Core.Bool.{Bool, true, false, false≢true}
use mathlib.Core.List.{List, [], ◌∷◌}
use mathlib.Core.Logic.{◌⊎◌, inl, inr, ⊎_elim}
use Prim.Native.Nat.{ℕ, zero, suc, ◌+◌, ◌≤◌, ◌<◌, zero-le, suc-le-suc}
use native.Mathlib.Nat.{not-suc-le-zero, le_of_suc-le-suc}
use native.Mathlib.Omega.{arith}
use borrow.Author.Count.{below_more}
use borrow.Author.Tests.{eqb-true, ltb-true, leb-true, lt-ltb, le-leb, eq-eqb, lt-leb, ne_eqb}
use lib.Dec.{eqb, leb, ltb}
use lib.ListN.{length, get_or}
use Rattle.lists.proofs.Bools.{and-right-false, and_both, and_intro, or_cases, or_left, or_right}
use Rattle.graph_rules.specs.Table.{conditions, first_broken, refusal, counts_fit, empties_fit, targets_fit, heads_fit, records_fit}
use Rattle.graph_rules.proofs.Shape.{none-broken}
use Rattle.refusals.specs.Refusals.{numbered}
use Rattle.graph_rules.specs.Layout.{no_state, most_states, most_leaves, most_matches, table_length}
use Rattle.legal.specs.Conditions.{states, leaves, records, Sized, Legal}
use Rattle.legal.proofs.Judging.{empties-judged, targets-judged, heads-judged, records-all, records-each}

-- the first k conditions hold
abbrev pub Passed : List ℕ → ℕ → Type 0
Passed w k = (j : ℕ) → j < k → get_or (conditions w) j true ≡ true

first-broken : (k i : ℕ) (l : List Bool) → i < length l → ((j : ℕ) → j < i → get_or l j true ≡ true) → get_or l i true ≡ false → first_broken k l ≡ k + i
first-broken k i [] h f e = absurd (not-suc-le-zero h)
first-broken k zero (true ∷ l) h f e = absurd (false≢true (sym e))
first-broken k zero (false ∷ l) h f e = omega arith
first-broken k (suc i) (true ∷ l) h f e =
    first-broken (suc k) i l (le_of_suc-le-suc h) (λ j b. f (suc j) (suc-le-suc b)) e ∙ omega arith
first-broken k (suc i) (false ∷ l) h f e = absurd (false≢true (f 0 (suc-le-suc zero-le)))

all_hold : (k : ℕ) (l : List Bool) → ((j : ℕ) → j < length l → get_or l j true ≡ true) → first_broken k l ≡ 0
all_hold k [] f = refl
all_hold k (true ∷ l) f = all_hold (suc k) l (λ j b. f (suc j) (suc-le-suc b))
all_hold k (false ∷ l) f = absurd (false≢true (f 0 (suc-le-suc zero-le)))

module _ (w : List ℕ) where
  pub passed_none : Passed w 0
  passed_none j h = absurd (not-suc-le-zero h)

  pub passed-more : (k : ℕ) → Passed w k → get_or (conditions w) k true ≡ true → Passed w (k + 1)
  passed-more k f e = below_more _ k f e

  -- the lowest that is broken
  pub refused : (k : ℕ) → k < 7 → Passed w k → get_or (conditions w) k true ≡ false → refusal w ≡ k + 1
  unfolding refusal conditions counts_fit empties_fit targets_fit heads_fit records_fit
  refused k h f e = first-broken 1 k (conditions w) h f e ∙ omega arith

  pub passed-all : Passed w 7 → refusal w ≡ 0
  unfolding refusal conditions counts_fit empties_fit targets_fit heads_fit records_fit
  passed-all f = all_hold 1 (conditions w) f

  -- ---- the conditions in words

  pub counts-are : (n m r : ℕ) → n ≡ states w → m ≡ leaves w → r ≡ records w → counts_fit n m r ≡ get_or (conditions w) 1 true
  unfolding conditions counts_fit empties_fit targets_fit heads_fit records_fit
  counts-are n m r a b c = λ i. counts_fit (a i) (b i) (c i)

  pub counts-pass : 1 ≤ states w → states w ≤ most_states → leaves w ≤ most_leaves → records w ≤ most_matches → get_or (conditions w) 1 true ≡ true
  unfolding conditions counts_fit empties_fit targets_fit heads_fit records_fit
  counts-pass a b c d =
      and_intro (leb 1 (states w)) _ (le-leb 1 (states w) a) (and_intro (leb (states w) most_states) _ (le-leb (states w) most_states b)
      (and_intro (leb (leaves w) most_leaves) _ (le-leb (leaves w) most_leaves c) (le-leb (records w) most_matches d)))

  pub counts-mean : get_or (conditions w) 1 true ≡ true → (1 ≤ states w) × (states w ≤ most_states) × (leaves w ≤ most_leaves) × (records w ≤ most_matches)
  unfolding conditions counts_fit empties_fit targets_fit heads_fit records_fit
  counts-mean e =
      let a = and_both (leb 1 (states w)) _ e in
      let b = and_both (leb (states w) most_states) _ a.1 in
      let c = and_both (leb (leaves w) most_leaves) _ b.1 in
      (leb-true 1 (states w) a.0, leb-true (states w) most_states b.0, leb-true (leaves w) most_leaves c.0, leb-true (records w) most_matches c.1)

  pub sized-means : Passed w 3 → Sized w
  unfolding conditions counts_fit empties_fit targets_fit heads_fit records_fit
  sized-means f =
      let (a, b, c, d) = counts-mean (f 1 (omega arith)) in
      record {
        four = leb-true 4 (length w) (f 0 (omega arith));
        some-state = a;
        few-states = b;
        few-leaves = c;
        few-records = d;
        exact = eqb-true (length w) (table_length (states w) (leaves w) (records w)) (f 2 (omega arith));
      }

  pub sized-shown : Sized w → Passed w 3
  unfolding conditions counts_fit empties_fit targets_fit heads_fit records_fit
  sized-shown z =
      passed-more 2
      (passed-more 1 (passed-more 0 passed_none (le-leb 4 (length w) z.four)) (counts-pass z.some-state z.few-states z.few-leaves z.few-records))
      (eq-eqb (length w) (table_length (states w) (leaves w) (records w)) z.exact)

  pub start-pass : (get_or w 1 0 < states w) ⊎ (get_or w 1 0 ≡ no_state) → get_or (conditions w) 3 true ≡ true
  unfolding conditions counts_fit empties_fit targets_fit heads_fit records_fit
  start-pass f =
      ⊎_elim
      (λ b. or_left (ltb (get_or w 1 0) (states w)) _ (lt-ltb (get_or w 1 0) (states w) b))
      (λ e. or_right (ltb (get_or w 1 0) (states w)) _ (eq-eqb (get_or w 1 0) no_state e))
      f

  pub start-means : get_or (conditions w) 3 true ≡ true → (get_or w 1 0 < states w) ⊎ (get_or w 1 0 ≡ no_state)
  unfolding conditions counts_fit empties_fit targets_fit heads_fit records_fit
  start-means e =
      ⊎_elim (λ b. inl (ltb-true (get_or w 1 0) (states w) b)) (λ b. inr (eqb-true (get_or w 1 0) no_state b))
      (or_cases (ltb (get_or w 1 0) (states w)) (eqb (get_or w 1 0) no_state) e)

  -- ---- both ways

  pub legal-means : refusal w ≡ 0 → Legal w
  unfolding refusal conditions empties_fit targets_fit heads_fit records_fit counts_fit
  legal-means e =
      let f : (i : ℕ) → get_or (conditions w) i true ≡ true = none-broken 0 (conditions w) e in
      let z = sized-means (λ j h. f j) in
      let (a, b) = and_both (heads_fit w) (records_fit w) (f 6) in
      record {
        sized = z;
        start = start-means (f 3);
        empties = (empties-judged w).each (f 4);
        targets = λ s c h k. (targets-judged w z).each (f 5) s h c k;
        heads = (heads-judged w).each a;
        matches = records-each w b;
      }

  pub legal-sized : refusal w ≡ 0 → Sized w
  legal-sized e = (legal-means e).sized

  pub legal-shown : Legal w → refusal w ≡ 0
  unfolding conditions empties_fit targets_fit heads_fit records_fit counts_fit
  legal-shown l =
      passed-all
      (passed-more 6
      (passed-more 5
      (passed-more 4
      (passed-more 3 (sized-shown l.sized) (start-pass l.start))
      ((empties-judged w).all l.empties))
      ((targets-judged w l.sized).all (λ s h c k. l.targets s c h k)))
      (and_intro (heads_fit w) (records_fit w) ((heads-judged w).all l.heads) (records-all w l.matches)))

  -- ---- what is refused

  abbrev Told : ℕ → Type 0
  Told k = (numbered (k + 1) ≡ numbered (refusal w)) × (refusal w ≡ 0 → ⊥)

  told : (k : ℕ) → k < 7 → Passed w k → get_or (conditions w) k true ≡ false → Told k
  told k h f e = let r = refused k h f e in (ap numbered (sym r), λ z. absurd (omega arith))

  long-passed : 4 ≤ length w → Passed w 1
  unfolding conditions counts_fit empties_fit targets_fit heads_fit records_fit
  long-passed h = passed-more 0 passed_none (le-leb 4 (length w) h)

  pub told-short : length w < 4 → (numbered 1 ≡ numbered (refusal w)) × (refusal w ≡ 0 → ⊥)
  unfolding conditions counts_fit empties_fit targets_fit heads_fit records_fit
  told-short h = told 0 (omega arith) passed_none (lt-leb 4 (length w) h)

  module _ (n m r : ℕ) (long : 4 ≤ length w) (a : n ≡ states w) (b : m ≡ leaves w) (c : r ≡ records w) where
    pub told-counts : counts_fit n m r ≡ false → (numbered 2 ≡ numbered (refusal w)) × (refusal w ≡ 0 → ⊥)
    told-counts e = told 1 (omega arith) (long-passed long) (sym (counts-are n m r a b c) ∙ e)

    counted : counts_fit n m r ≡ true → Passed w 2
    counted e = passed-more 1 (long-passed long) (sym (counts-are n m r a b c) ∙ e)

    pub told-length : counts_fit n m r ≡ true → (length w ≡ table_length n m r → ⊥) → (numbered 3 ≡ numbered (refusal w)) × (refusal w ≡ 0 → ⊥)
    unfolding conditions counts_fit empties_fit targets_fit heads_fit records_fit
    told-length e z =
        told 2 (omega arith) (counted e) (ne_eqb (length w) (table_length (states w) (leaves w) (records w)) (λ q. z (omega arith)))

    pub sized-is : counts_fit n m r ≡ true → length w ≡ table_length n m r → Sized w
    unfolding conditions counts_fit empties_fit targets_fit heads_fit records_fit
    sized-is e q =
        sized-means (passed-more 2 (counted e) (eq-eqb (length w) (table_length (states w) (leaves w) (records w)) (omega arith)))

  module _ (z : Sized w) where
    pub told-start : (ltb (get_or w 1 0) (get_or w 0 0) || eqb (get_or w 1 0) no_state) ≡ false → (numbered 4 ≡ numbered (refusal w)) × (refusal w ≡ 0 → ⊥)
    unfolding conditions counts_fit empties_fit targets_fit heads_fit records_fit
    told-start e = told 3 (omega arith) (sized-shown z) e

    module _ (started : (ltb (get_or w 1 0) (get_or w 0 0) || eqb (get_or w 1 0) no_state) ≡ true) where
      start-passed : Passed w 4
      unfolding conditions counts_fit empties_fit targets_fit heads_fit records_fit
      start-passed = passed-more 3 (sized-shown z) started

      pub told-empties : empties_fit w ≡ false → (numbered 5 ≡ numbered (refusal w)) × (refusal w ≡ 0 → ⊥)
      unfolding conditions
      told-empties e = told 4 (omega arith) start-passed e

      module _ (empties : empties_fit w ≡ true) where
        empties-passed : Passed w 5
        unfolding conditions
        empties-passed = passed-more 4 start-passed empties

        pub told-targets : targets_fit w ≡ false → (numbered 6 ≡ numbered (refusal w)) × (refusal w ≡ 0 → ⊥)
        unfolding conditions
        told-targets e = told 5 (omega arith) empties-passed e

        module _ (targets : targets_fit w ≡ true) where
          targets-passed : Passed w 6
          unfolding conditions
          targets-passed = passed-more 5 empties-passed targets

          pub told-heads : heads_fit w ≡ false → (numbered 7 ≡ numbered (refusal w)) × (refusal w ≡ 0 → ⊥)
          unfolding conditions
          told-heads e = told 6 (omega arith) targets-passed (rw e)

          pub told-records : records_fit w ≡ false → (numbered 7 ≡ numbered (refusal w)) × (refusal w ≡ 0 → ⊥)
          unfolding conditions
          told-records e = told 6 (omega arith) targets-passed (and-right-false (heads_fit w) (records_fit w) e)

          pub none-refused : heads_fit w ≡ true → records_fit w ≡ true → refusal w ≡ 0
          unfolding conditions
          none-refused a b = passed-all (passed-more 6 targets-passed (and_intro (heads_fit w) (records_fit w) a b))
