-- The conditions 5 to 7, which loops judge: what each says of the flat words, leaf by leaf, target by target, record by record. Assumes nothing.
use mathlib.Core.Path.{◌≡◌, sym, ap, ◌∙◌}
use mathlib.Core.Bool.{true, false, ◌||◌, false≢true}
use mathlib.Core.List.{List, []}
use mathlib.Core.Logic.{◌⊎◌, inl, inr, ⊎_elim}
use Prim.Native.Nat.{ℕ, zero, suc, ◌+◌, ◌≤◌, ◌<◌}
use native.Mathlib.Nat.{not-suc-le-zero}
use native.Mathlib.Numerals.{add-one}
use native.Mathlib.Omega.{arith}
use borrow.Author.Tests.{eqb-true, eqb-false, ltb-true, leb-true, lt-ltb, le-leb}
use lib.Dec.{eqb, leb, ltb}
use lib.ListN.{length, get_or}
use Rattle.lists.specs.Lists.{all_l}
use Rattle.lists.proofs.Bools.{Is, is, yes-is, no-is, and_both, and_intro, or_cases, or_left, or_right}
use Rattle.lists.proofs.Judged.{Judged, all-judged, below-judged}
use Rattle.graph_rules.specs.Table.{Leaf, Row, table_of, row_of, leaf_at, match_of, match_fits, step, empties_fit, targets_fit, heads_fit, records_fit}
use Rattle.graph_rules.proofs.Flat.{step-word, head-word, empty-word, leaf-word, next_word_lem}
use Rattle.graph_rules.proofs.Counts.{leaves-length, rows-length, row-width}
use Rattle.legal.specs.Conditions.{states, leaves, records, empty_word, target_word, head_word, leaf_word, next_word, Sized, RecordFits}
use Rattle.graph_rules.specs.Layout.{step_count}

module _ (w : List ℕ) where
  -- ---- 5

  pub empties-judged : Judged (empties_fit w) (leaves w) (λ l. empty_word w l ≤ 1)
  unfolding empties_fit leaf_at
  empties-judged =
      all-judged (λ (l : Leaf). leb l.empty 1) (λ l. empty_word w l ≤ 1) (table_of w).leaves (record { priority = 0; empty = 0 }) (leaves w) (leaves-length w)
      (λ l h b. le-leb (leaf_at (table_of w) l).empty 1 (rw (empty-word w l h) b))
      (λ l h e. rw (empty-word w l h) at (leb-true (leaf_at (table_of w) l).empty 1 e))

  -- ---- 6

  row-judged : Sized w → (s : ℕ) → s < states w
      → Judged (all_l (λ u. ltb u (states w)) (row_of (table_of w) s).steps) step_count (λ c. target_word w s c < states w)
  unfolding step
  row-judged z s h =
      all-judged (λ u. ltb u (states w)) (λ c. target_word w s c < states w) (row_of (table_of w) s).steps 0 step_count (row-width w z.exact s h)
      (λ c b t. lt-ltb (step (table_of w) s c) (states w) (rw (step-word w s c h b) t))
      (λ c b e. rw (step-word w s c h b) at (ltb-true (step (table_of w) s c) (states w) e))

  pub targets-judged : Sized w → Judged (targets_fit w) (states w) (λ s. (c : ℕ) → c < step_count → target_word w s c < states w)
  unfolding targets_fit row_of
  targets-judged z =
      all-judged (λ (row : Row). all_l (λ u. ltb u (states w)) row.steps) (λ s. (c : ℕ) → c < step_count → target_word w s c < states w)
      (table_of w).rows (record { steps = []; head = 0 }) (states w) (rows-length w)
      (λ s h f. (row-judged z s h).all f)
      (λ s h e. (row-judged z s h).each e)

  -- ---- 7

  pub heads-judged : Judged (heads_fit w) (states w) (λ s. head_word w s ≤ records w)
  unfolding heads_fit row_of
  heads-judged =
      all-judged (λ (row : Row). leb row.head (records w)) (λ s. head_word w s ≤ records w)
      (table_of w).rows (record { steps = []; head = 0 }) (states w) (rows-length w)
      (λ s h b. le-leb (row_of (table_of w) s).head (records w) (rw (head-word w s h) b))
      (λ s h e. rw (head-word w s h) at (leb-true (row_of (table_of w) s).head (records w) e))

  pub match-leaf : (i : ℕ) → 0 < i → i ≤ records w → (match_of (table_of w) i).leaf ≡ leaf_word w i
  match-leaf zero p h = absurd (omega arith)
  match-leaf (suc i) p h = leaf-word w i (omega arith) ∙ ap (λ (k : ℕ). get_or w k 0) (omega arith)

  pub match-next : (i : ℕ) → 0 < i → i ≤ records w → (match_of (table_of w) i).next ≡ next_word w i
  match-next zero p h = absurd (omega arith)
  match-next (suc i) p h = next_word_lem w i (omega arith) ∙ ap (λ (k : ℕ). get_or w k 0) (omega arith)

  next-leaf : (i : ℕ) → 0 < i → i ≤ records w → next_word w i < i → (next_word w i ≡ 0 → ⊥)
      → (match_of (table_of w) (match_of (table_of w) i).next).leaf ≡ leaf_word w (next_word w i)
  next-leaf i p h b n =
      ap (λ (k : ℕ). (match_of (table_of w) k).leaf) (match-next i p h) ∙ match-leaf (next_word w i) (omega (arith, n)) (omega arith)

  pub record-shown : (i : ℕ) → 0 < i → i ≤ records w → RecordFits w i → match_fits (table_of w) i ≡ true
  unfolding match_fits
  record-shown i p h f =
      let m = match_of (table_of w) i in
      let a = match-leaf i p h in
      let b = match-next i p h in
      let l = leaves-length w in
      and_intro (ltb m.leaf (length (table_of w).leaves)) _ (lt-ltb m.leaf (length (table_of w).leaves) (let z = f.leaf-below in omega arith))
      (and_intro (ltb m.next i) _ (lt-ltb m.next i (let z = f.next-below in omega arith))
      (go (is (eqb m.next 0))))
    where
      go : Is (eqb (match_of (table_of w) i).next 0)
          → (eqb (match_of (table_of w) i).next 0 || ltb (match_of (table_of w) i).leaf (match_of (table_of w) (match_of (table_of w) i).next).leaf) ≡ true
      go (yes-is e) = or_left _ _ e
      go (no-is e) =
          let m = match_of (table_of w) i in
          let b = match-next i p h in
          let z : next_word w i ≡ 0 → ⊥ = λ q. eqb-false m.next 0 e (b ∙ q) in
          let c = next-leaf i p h f.next-below z in
          let a = match-leaf i p h in
          or_right (eqb m.next 0) _
          (lt-ltb m.leaf (match_of (table_of w) m.next).leaf (⊎_elim (λ q. absurd (z q)) (λ q. omega arith) f.ascending))

  record-means : (i : ℕ) → 0 < i → i ≤ records w → match_fits (table_of w) i ≡ true → RecordFits w i
  unfolding match_fits
  record-means i p h e =
      let m = match_of (table_of w) i in
      let x = and_both (ltb m.leaf (length (table_of w).leaves)) _ e in
      let y = and_both (ltb m.next i) _ x.1 in
      let a = match-leaf i p h in
      let b = match-next i p h in
      let l = leaves-length w in
      let low : leaf_word w i < leaves w = let z = ltb-true m.leaf (length (table_of w).leaves) x.0 in omega arith in
      let falls : next_word w i < i = let z = ltb-true m.next i y.0 in omega arith in
      record { leaf-below = low; next-below = falls; ascending = go falls (is (eqb m.next 0)) y.1 }
    where
      go : next_word w i < i → Is (eqb (match_of (table_of w) i).next 0)
          → (eqb (match_of (table_of w) i).next 0 || ltb (match_of (table_of w) i).leaf (match_of (table_of w) (match_of (table_of w) i).next).leaf) ≡ true
          → (next_word w i ≡ 0) ⊎ (leaf_word w i < leaf_word w (next_word w i))
      go falls (yes-is q) o = inl (sym (match-next i p h) ∙ eqb-true _ 0 q)
      go falls (no-is q) o =
          let m = match_of (table_of w) i in
          let b = match-next i p h in
          let c = next-leaf i p h falls (λ z. eqb-false m.next 0 q (b ∙ z)) in
          let a = match-leaf i p h in
          ⊎_elim
          (λ z. absurd (false≢true (sym q ∙ z)))
          (λ z. let y = ltb-true m.leaf (match_of (table_of w) m.next).leaf z in inr (omega arith))
          (or_cases (eqb m.next 0) _ o)

  pub record-false : (i : ℕ) → 0 < i → i ≤ records w → (RecordFits w i → ⊥) → match_fits (table_of w) i ≡ false
  record-false i p h n = go (is (match_fits (table_of w) i))
    where
      go : Is (match_fits (table_of w) i) → match_fits (table_of w) i ≡ false
      go (yes-is e) = absurd (n (record-means i p h e))
      go (no-is e) = e

  -- with a leaf and a next that are low, and a next that is a record, by their leaves
  pub record-next : (i : ℕ) → 0 < i → i ≤ records w → leaf_word w i < leaves w → next_word w i < i → (next_word w i ≡ 0 → ⊥)
      → ltb (leaf_word w i) (leaf_word w (next_word w i)) ≡ match_fits (table_of w) i
  record-next i p h l b n = go (is (ltb (leaf_word w i) (leaf_word w (next_word w i))))
    where
      go : Is (ltb (leaf_word w i) (leaf_word w (next_word w i))) → ltb (leaf_word w i) (leaf_word w (next_word w i)) ≡ match_fits (table_of w) i
      go (yes-is e) = e ∙ sym (record-shown i p h (record { leaf-below = l; next-below = b; ascending = inr (ltb-true _ _ e) }))
      go (no-is e) = e ∙ sym (record-false i p h (λ f. ⊎_elim n (λ u. false≢true (sym e ∙ lt-ltb _ _ u)) f.ascending))

  pub records-judged : Judged (records_fit w) (records w) (λ k. match_fits (table_of w) (k + 1) ≡ true)
  unfolding records_fit
  records-judged = below-judged (λ k. match_fits (table_of w) (suc k)) (λ k. match_fits (table_of w) (k + 1) ≡ true) (records w) (λ k h e. rw (add-one k) at e) (λ k h e. rw (add-one k) e)

  -- by the records' numbers, from 1
  pub records-all : ((i : ℕ) → 0 < i → i ≤ records w → RecordFits w i) → records_fit w ≡ true
  records-all f = records-judged.all (λ k h. record-shown (k + 1) (omega arith) (omega arith) (f (k + 1) (omega arith) (omega arith)))

  pub records-each : records_fit w ≡ true → (i : ℕ) → 0 < i → i ≤ records w → RecordFits w i
  records-each e zero p h = absurd (not-suc-le-zero p)
  records-each e (suc k) p h = record-means (suc k) p h (rw (add-one k) at (records-judged.each e k h))
