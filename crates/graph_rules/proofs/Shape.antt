-- What the laws need to know of a table, and that every table of legal words has it. Assumes nothing.
use Rattle.std.specs.Prelude.{Some, None}
use mathlib.Core.Path.{◌≡◌, refl, sym, ap, subst, ◌∙◌}
use mathlib.Core.Bool.{Bool, true, false, false≢true}
use mathlib.Core.List.{List, [], ◌∷◌}
use mathlib.Core.Logic.{⊎_elim}
use Prim.Native.Nat.{ℕ, zero, suc, ◌+◌, ◌≤◌, ◌<◌}
use native.Mathlib.Omega.{arith}
use borrow.Author.Tests.{eq-eqb, ne_eqb, eqb-true, eqb-false, ltb-true, leb-true}
use lib.Dec.{eqb, leb, ltb}
use lib.ListN.{length, get_or, get_or-eq_default}
use Rattle.lists.specs.Lists.{all_l, below}
use Rattle.lists.proofs.Bools.{and_both, and_intro, or_cases, Is, is, no-is, none-some, some_inj, lt-or-le, yes-is}
use Rattle.lists.proofs.Elements.{get_or-tab0, length-tab, all-at}
use Rattle.lists.proofs.Those.{those-keep}
use Rattle.graph_rules.specs.Table.{Row, Table, table_of, size, row_of, step, match_of, match_fits, conditions, first_broken, refusal, counts_fit, empties_fit, targets_fit, heads_fit, records_fit}
use Rattle.graph_rules.specs.Build.{chain_from, chain, contenders, single, leaf_of}
use Rattle.graph_rules.specs.Layout.{step_count, no_state, most_states, most_leaves, table_length}
use Rattle.graph_rules.proofs.Counts.{leaves-length, size_is, row-width}

pub record Shaped (t : Table) : Type 0 where
  pub start-below : (s : ℕ) → t.start ≡ Some s → s < size t
  pub width : (s : ℕ) → s < size t → length (row_of t s).steps ≡ step_count
  pub step-below : (s c : ℕ) → s < size t → step t s c < size t

-- ---- the start

module _ (w : List ℕ) where
  pub start_none : get_or w 1 0 ≡ no_state → (table_of w).start ≡ None
  unfolding table_of
  start_none e = rw (eq-eqb (get_or w 1 0) no_state e, table_of)

  pub start-some : (get_or w 1 0 ≡ no_state → ⊥) → (table_of w).start ≡ Some (get_or w 1 0)
  unfolding table_of
  start-some n = rw (ne_eqb (get_or w 1 0) no_state n, table_of)

-- ---- legal words

pub none-broken : (k : ℕ) (l : List Bool) → first_broken (suc k) l ≡ 0 → (i : ℕ) → get_or l i true ≡ true
none-broken k [] e i = refl
none-broken k (true ∷ l) e zero = refl
none-broken k (true ∷ l) e (suc i) = none-broken (suc k) l e i
none-broken k (false ∷ l) e i = absurd (omega arith)

-- a refusal is a small number
pub refusal-small : (w : List ℕ) → refusal w < 9
unfolding refusal conditions counts_fit empties_fit targets_fit heads_fit records_fit
refusal-small w = broken-below 1 (conditions w)
  where
    broken-below : (k : ℕ) (l : List Bool) → first_broken k l < suc (k + length l)
    broken-below k [] = omega arith
    broken-below k (true ∷ l) = let h = broken-below (suc k) l in omega arith
    broken-below k (false ∷ l) = omega arith

module _ (w : List ℕ) (legal : refusal w ≡ 0) where
  holds : (i : ℕ) → get_or (conditions w) i true ≡ true
  unfolding refusal
  holds i = none-broken 0 (conditions w) legal i

  pub some-state : 1 ≤ get_or w 0 0
  unfolding conditions counts_fit empties_fit targets_fit heads_fit records_fit
  some-state = leb-true 1 (get_or w 0 0) (and_both (leb 1 (get_or w 0 0)) _ (holds 1)).0

  ranges : (get_or w 0 0 ≤ most_states) × (get_or w 2 0 ≤ most_leaves)
  unfolding conditions counts_fit empties_fit targets_fit heads_fit records_fit
  ranges =
      let a = (and_both (leb 1 (get_or w 0 0)) _ (holds 1)).1 in
      let b = and_both (leb (get_or w 0 0) most_states) _ a in
      let c = and_both (leb (get_or w 2 0) most_leaves) _ b.1 in
      (leb-true (get_or w 0 0) most_states b.0, leb-true (get_or w 2 0) most_leaves c.0)

  pub few-states : get_or w 0 0 ≤ most_states
  few-states = ranges.0

  pub few-leaves : get_or w 2 0 ≤ most_leaves
  few-leaves = ranges.1

  pub exact : length w ≡ table_length (get_or w 0 0) (get_or w 2 0) (get_or w 3 0)
  unfolding conditions counts_fit empties_fit targets_fit heads_fit records_fit
  exact = eqb-true (length w) (table_length (get_or w 0 0) (get_or w 2 0) (get_or w 3 0)) (holds 2)

  pub legal-width : (s : ℕ) → s < size (table_of w) → length (row_of (table_of w) s).steps ≡ step_count
  legal-width s h = row-width w exact s (rw (size_is w) at h)

  -- condition 6, at a row
  rows_fit : (s : ℕ) → s < size (table_of w) → all_l (λ k. ltb k (get_or w 0 0)) (row_of (table_of w) s).steps ≡ true
  unfolding conditions size row_of counts_fit empties_fit targets_fit heads_fit records_fit
  rows_fit s h = all-at (λ (row : Row). all_l (λ k. ltb k (get_or w 0 0)) row.steps) (table_of w).rows s (record { steps = []; head = 0 }) (holds 5) h

  pub legal-step : (s c : ℕ) → s < size (table_of w) → step (table_of w) s c < size (table_of w)
  unfolding step
  legal-step s c h = ⊎_elim (λ b. inside b) (λ b. outside b) (lt-or-le c (length (row_of (table_of w) s).steps))
    where
      inside : c < length (row_of (table_of w) s).steps → get_or (row_of (table_of w) s).steps c 0 < size (table_of w)
      inside b =
          rw (size_is w)
          (ltb-true _ (get_or w 0 0) (all-at (λ k. ltb k (get_or w 0 0)) (row_of (table_of w) s).steps c 0 (rows_fit s h) b))

      outside : length (row_of (table_of w) s).steps ≤ c → get_or (row_of (table_of w) s).steps c 0 < size (table_of w)
      outside b =
          let e = get_or-eq_default (row_of (table_of w) s).steps 0 b in
          let p = some-state in let q = size_is w in omega arith

  pub legal-start : (s : ℕ) → (table_of w).start ≡ Some s → s < size (table_of w)
  unfolding table_of conditions counts_fit empties_fit targets_fit heads_fit records_fit
  legal-start s e = go (is (eqb (get_or w 1 0) no_state))
    where
      go : Is (eqb (get_or w 1 0) no_state) → s < size (table_of w)
      go (yes-is q) = absurd (none-some (rw (q, table_of) at e))
      go (no-is q) =
          let e' : get_or w 1 0 ≡ s = some_inj (rw (q, table_of) at e) in
          let b = or_cases (ltb (get_or w 1 0) (get_or w 0 0)) (eqb (get_or w 1 0) no_state) (holds 3) in
          let z = size_is w in
          ⊎_elim (λ l. let l' = ltb-true (get_or w 1 0) (get_or w 0 0) l in omega arith) (λ l. absurd (false≢true (sym q ∙ l))) b

  -- ---- chains: condition 7

  match-fits : (i : ℕ) → i < get_or w 3 0 → match_fits (table_of w) (suc i) ≡ true
  unfolding conditions counts_fit empties_fit targets_fit heads_fit records_fit
  match-fits i h =
      let a = (and_both (all_l (λ (row : Row). leb row.head (get_or w 3 0)) (table_of w).rows) _ (holds 6)).1 in
      ap (λ (x : ℕ). match_fits (table_of w) (suc x)) (sym (get_or-tab0 (get_or w 3 0) (λ x. x) i 0 h))
      ∙ all-at (λ i. match_fits (table_of w) (suc i)) (below (get_or w 3 0)) i 0 a (rw (length-tab 0 (get_or w 3 0) (λ x. x)) h)

  -- a state past the last has the empty chain
  pub head-fits : (s : ℕ) → (row_of (table_of w) s).head ≤ get_or w 3 0
  unfolding conditions row_of counts_fit empties_fit targets_fit heads_fit records_fit
  head-fits s =
      let rows = (table_of w).rows in
      let a : all_l (λ row. leb row.head (get_or w 3 0)) rows ≡ true = (and_both (all_l (λ row. leb row.head (get_or w 3 0)) rows) _ (holds 6)).0 in
      ⊎_elim
      (λ h. leb-true _ (get_or w 3 0) (all-at (λ (row : Row). leb row.head (get_or w 3 0)) rows s (record { steps = []; head = 0 }) a h))
      (λ h. let e = ap (λ (r : Row). r.head) (get_or-eq_default rows (record { steps = []; head = 0 }) h) in omega arith)
      (lt-or-le s (length rows))

  chain-below : (k i : ℕ) → i ≤ get_or w 3 0 → all_l (λ l. ltb l (length (table_of w).leaves)) (chain_from (table_of w) k i) ≡ true
  unfolding match_fits
  chain-below zero i h = refl
  chain-below (suc k) i h = go (is (eqb i 0)) (chain-below k)
    where
      fits : (i : ℕ) → i ≤ get_or w 3 0 → (i ≡ 0 → ⊥) → match_fits (table_of w) i ≡ true
      fits zero h z = absurd (z refl)
      fits (suc i) h z = match-fits i (omega arith)

      go : Is (eqb i 0) → ((j : ℕ) → j ≤ get_or w 3 0 → all_l (λ l. ltb l (length (table_of w).leaves)) (chain_from (table_of w) k j) ≡ true)
          → all_l (λ l. ltb l (length (table_of w).leaves)) (chain_from (table_of w) (suc k) i) ≡ true
      go (yes-is q) f = rw (q, chain_from)
      go (no-is q) f =
          let m = match_of (table_of w) i in
          let p = and_both (ltb m.leaf (length (table_of w).leaves)) _ (fits i h (eqb-false i 0 q)) in
          let n = ltb-true m.next i (and_both (ltb m.next i) _ p.1).0 in
          rw (q, chain_from) (and_intro _ _ p.0 (f m.next (omega arith)))

  single-all : (p : ℕ → Bool) (c : List ℕ) → all_l p c ≡ true → (l : ℕ) → single c ≡ Some l → p l ≡ true
  single-all p [] a l e = absurd (none-some e)
  single-all p (x ∷ []) a l e = subst (λ (y : ℕ). p y ≡ true) (some_inj e) (and_both (p x) _ a).0
  single-all p (x ∷ (y ∷ c)) a l e = absurd (none-some e)

  pub legal-leaf : (s l : ℕ) → leaf_of (table_of w) s ≡ Some l → l < get_or w 2 0
  unfolding leaf_of contenders chain
  legal-leaf s l e =
      let t = table_of w in
      let c = chain-below (row_of t s).head (row_of t s).head (head-fits s) in
      let b = ltb-true l (length t.leaves) (single-all (λ l. ltb l (length t.leaves)) (contenders t s) (those-keep _ (λ l. ltb l (length t.leaves)) (chain t s) c) l e) in
      let z = leaves-length w in
      omega arith

  pub legal-shaped : Shaped (table_of w)
  legal-shaped = record { start-below = legal-start; width = legal-width; step-below = legal-step }
