-- A state's contenders are the tie that begins at its top record, and a tie goes on at its next record: by induction along a chain, whose record numbers
-- fall. Assumes nothing.
use Rattle.std.specs.Prelude.{Option, Some, None}
use mathlib.Core.Path.{◌≡◌, refl, sym, ap, ◌∙◌}
use mathlib.Core.List.{List, [], ◌∷◌, map, map-map}
use Prim.Native.Nat.{ℕ, zero, suc, max, ◌≤◌, ◌<◌}
use native.Mathlib.Omega.{arith}
use borrow.Author.Tests.{eqb-true, eqb-false, eq-eqb, ne_eqb}
use lib.Dec.{eqb}
use lib.ListN.{get_or}
use Rattle.lists.specs.Lists.{those}
use Rattle.lists.proofs.Bools.{Is, is, yes-is, no-is, none-some, some_inj}
use Rattle.lists.proofs.Those.{those-map}
use Rattle.graph_rules.specs.Table.{Table, table_of, row_of, leaf_at, match_of, refusal}
use Rattle.graph_rules.specs.Build.{chain_from, chain, highest, contenders, single, leaf_of}
use Rattle.leaves.specs.Chains.{records_from, records, priority_at, highest_from, first_with, top_of, next_tied, tie_from, tie_at}
use Rattle.leaves.proofs.Records.{next-below}
use Rattle.graph_rules.proofs.Shape.{head-fits}

-- ---- any table: a chain's leaves are those of its records

module _ (t : Table) where
  abbrev pub leaf_of_record : ℕ → ℕ
  leaf_of_record j = (match_of t j).leaf

  abbrev pub priority_of : ℕ → ℕ
  priority_of l = (leaf_at t l).priority

  abbrev pub with : ℕ → List ℕ → List ℕ
  with p = those (λ j. eqb (priority_at t j) p)

  pub chain-from : (k i : ℕ) → chain_from t k i ≡ map leaf_of_record (records_from t k i)
  chain-from zero i = refl
  chain-from (suc k) i = go (is (eqb i 0)) (chain-from k (match_of t i).next)
    where
      go : Is (eqb i 0) → chain_from t k (match_of t i).next ≡ map leaf_of_record (records_from t k (match_of t i).next)
          → chain_from t (suc k) i ≡ map leaf_of_record (records_from t (suc k) i)
      go (yes-is q) e = rw (q, chain_from, records_from)
      go (no-is q) e = rw (q, chain_from, records_from) (ap {B = List ℕ} (λ r. leaf_of_record i ∷ r) e)

  pub those-leaf : (p : ℕ) (l : List ℕ) → those (λ x. eqb (priority_of x) p) (map leaf_of_record l) ≡ map leaf_of_record (with p l)
  unfolding priority_at
  those-leaf p l = those-map (λ x. eqb (priority_of x) p) leaf_of_record l

  -- the contenders, by records
  contenders-by : (s : ℕ) → contenders t s ≡ map leaf_of_record (with (highest_from t (row_of t s).head) (records t (row_of t s).head))
  unfolding contenders chain highest_from records priority_at
  contenders-by s =
      let h = (row_of t s).head in
      let e : chain_from t h h ≡ map leaf_of_record (records_from t h h) = chain-from h h in
      rw (e, map-map priority_of leaf_of_record (records_from t h h)) (those-leaf (highest (map (priority_at t) (records_from t h h))) (records_from t h h))

-- ---- a legal table

module _ (w : List ℕ) (legal : refusal w ≡ 0) where
  abbrev t : Table
  t = table_of w

  abbrev next : ℕ → ℕ
  next i = (match_of t i).next

  -- any fuel that is enough gives the chain
  fuel : (k j i : ℕ) → i ≤ k → i ≤ j → i ≤ get_or w 3 0 → records_from t k i ≡ records_from t j i
  fuel zero zero i a b h = refl
  fuel zero (suc j) i a b h = let e : i ≡ 0 = omega arith in rw (eq-eqb i 0 e, records_from)
  fuel (suc k) zero i a b h = let e : i ≡ 0 = omega arith in rw (eq-eqb i 0 e, records_from)
  fuel (suc k) (suc j) i a b h = go (is (eqb i 0)) (fuel k j)
    where
      go : Is (eqb i 0) → ((i : ℕ) → i ≤ k → i ≤ j → i ≤ get_or w 3 0 → records_from t k i ≡ records_from t j i)
          → records_from t (suc k) i ≡ records_from t (suc j) i
      go (yes-is q) f = rw (q, records_from)
      go (no-is q) f =
          let z : i ≡ 0 → ⊥ = eqb-false i 0 q in
          let n = next-below w legal i (omega (arith, z)) h in
          rw (q, records_from) (ap {B = List ℕ} (λ r. i ∷ r) (f (next i) (omega arith) (omega arith) (omega arith)))

  pub records-end : records t 0 ≡ []
  unfolding records
  records-end = refl

  pub records-step : (i : ℕ) → 0 < i → i ≤ get_or w 3 0 → records t i ≡ i ∷ records t (next i)
  unfolding records
  records-step zero a h = absurd (omega arith)
  records-step (suc i) a h =
      let n = next-below w legal (suc i) a h in
      let z : suc i ≡ 0 → ⊥ = λ e. omega arith in
      rw (ne_eqb (suc i) 0 z, records_from) (ap {B = List ℕ} (λ r. suc i ∷ r) (fuel i (next (suc i)) (next (suc i)) (omega arith) (omega arith) (omega arith)))

  -- ---- the highest priority

  pub highest-end : highest_from t 0 ≡ 0
  unfolding highest_from records
  highest-end = refl

  pub highest-step : (i : ℕ) → 0 < i → i ≤ get_or w 3 0 → highest_from t i ≡ max (priority_at t i) (highest_from t (next i))
  unfolding highest_from
  highest-step i a h = ap (λ (l : List ℕ). highest (map (priority_at t) l)) (records-step i a h)

  -- ---- the first record of a priority

  pub first-end : (p : ℕ) → first_with t p 0 ≡ None
  unfolding first_with records
  first-end p = refl

  module _ (p i : ℕ) (a : 0 < i) (h : i ≤ get_or w 3 0) where
    pub first-here : priority_at t i ≡ p → first_with t p i ≡ Some i
    unfolding first_with
    first-here e = rw (records-step i a h) (rw (eq-eqb (priority_at t i) p e, those))

    pub first-later : (priority_at t i ≡ p → ⊥) → first_with t p i ≡ first_with t p (next i)
    unfolding first_with
    first-later e = rw (records-step i a h) (rw (ne_eqb (priority_at t i) p e, those))

  -- that record is of the chain, and from there on the chain has all of that priority
  record FromFirst (p i : ℕ) (f : Option ℕ) : Type 0 where
    low : (j : ℕ) → f ≡ Some j → (0 < j) × (j ≤ i)
    same : map (leaf_of_record t) (with t p (records t i)) ≡ tie_at t f

  from_end : (p : ℕ) → FromFirst p 0 None
  unfolding records
  from_end p = record { low = λ j q. absurd (none-some q); same = refl }

  from_here : (p i : ℕ) → 0 < i → i ≤ get_or w 3 0 → priority_at t i ≡ p → FromFirst p i (Some i)
  unfolding tie_from
  from_here p i a h e =
      record {
        low = λ j q. let z : i ≡ j = some_inj q in (omega arith, omega arith);
        same = ap (λ (q : ℕ). map (leaf_of_record t) (with t q (records t i))) (sym e);
      }

  from_first : (p k i : ℕ) → i ≤ k → i ≤ get_or w 3 0 → FromFirst p i (first_with t p i)
  from_first p zero i b h = let e : i ≡ 0 = omega arith in rw e (rw (first-end p) (from_end p))
  from_first p (suc k) i b h = go (is (eqb i 0)) (is (eqb (priority_at t i) p)) (from_first p k)
    where
      go : Is (eqb i 0) → Is (eqb (priority_at t i) p) → ((i : ℕ) → i ≤ k → i ≤ get_or w 3 0 → FromFirst p i (first_with t p i)) → FromFirst p i (first_with t p i)
      go (yes-is z) q f = let e : i ≡ 0 = eqb-true i 0 z in rw e (rw (first-end p) (from_end p))
      go (no-is z) (yes-is q) f =
          let z' : i ≡ 0 → ⊥ = eqb-false i 0 z in
          let a : 0 < i = omega (arith, z') in
          let e : priority_at t i ≡ p = eqb-true (priority_at t i) p q in
          rw (first-here p i a h e) (from_here p i a h e)
      go (no-is z) (no-is q) f =
          let z' : i ≡ 0 → ⊥ = eqb-false i 0 z in
          let a : 0 < i = omega (arith, z') in
          let n = next-below w legal i a h in
          let r = f (next i) (omega arith) (omega arith) in
          rw (first-later p i a h (eqb-false (priority_at t i) p q))
          (record {
            low = λ j k. let l = r.low j k in (l.0, omega arith);
            same = ap (λ (l : List ℕ). map (leaf_of_record t) (with t p l)) (records-step i a h) ∙ rw (q, those) r.same;
          })

  pub first-low : (p i j : ℕ) → i ≤ get_or w 3 0 → first_with t p i ≡ Some j → (0 < j) × (j ≤ i)
  first-low p i j h e = (from_first p i i (omega arith) h).low j e

  -- so they are the tie that begins there
  tie_there : (p i : ℕ) → i ≤ get_or w 3 0 → map (leaf_of_record t) (with t p (records t i)) ≡ tie_at t (first_with t p i)
  tie_there p i h = (from_first p i i (omega arith) h).same

  -- ---- the laws that walks use

  tie-head : (i : ℕ) → 0 < i → i ≤ get_or w 3 0 → tie_from t i ≡ (match_of t i).leaf ∷ map (leaf_of_record t) (with t (priority_at t i) (records t (next i)))
  unfolding tie_from
  tie-head i a h = rw (records-step i a h) (rw (eq-eqb (priority_at t i) (priority_at t i) refl, those))

  pub tie-step : (i : ℕ) → 0 < i → i ≤ get_or w 3 0 → tie_from t i ≡ (match_of t i).leaf ∷ tie_at t (next_tied t i)
  unfolding next_tied
  tie-step i a h =
      let n = next-below w legal i a h in
      tie-head i a h ∙ ap {B = List ℕ} (λ r. (match_of t i).leaf ∷ r) (tie_there (priority_at t i) (next i) (omega arith))

  pub next-tied-low : (i j : ℕ) → 0 < i → i ≤ get_or w 3 0 → next_tied t i ≡ Some j → (0 < j) × (j < i)
  unfolding next_tied
  next-tied-low i j a h e =
      let n = next-below w legal i a h in
      let l = first-low (priority_at t i) (next i) j (omega arith) e in
      (l.0, omega arith)

  pub top-low : (s i : ℕ) → top_of t s ≡ Some i → (0 < i) × (i ≤ get_or w 3 0)
  unfolding top_of
  top-low s i e =
      let h = head-fits w legal s in
      let l = first-low (highest_from t (row_of t s).head) (row_of t s).head i h e in
      (l.0, omega arith)

  pub contenders-top : (s : ℕ) → contenders t s ≡ tie_at t (top_of t s)
  unfolding top_of
  contenders-top s = contenders-by t s ∙ tie_there (highest_from t (row_of t s).head) (row_of t s).head (head-fits w legal s)

  -- ---- a state's leaf

  module _ (s : ℕ) where
    pub leaf-none : top_of t s ≡ None → leaf_of t s ≡ None
    unfolding leaf_of
    leaf-none e = ap single (contenders-top s ∙ ap (tie_at t) e)

    module _ (i : ℕ) (top : top_of t s ≡ Some i) where
      tie-on : contenders t s ≡ (match_of t i).leaf ∷ tie_at t (next_tied t i)
      tie-on = let l = top-low s i top in contenders-top s ∙ ap (tie_at t) top ∙ tie-step i l.0 l.1

      pub leaf-one : next_tied t i ≡ None → leaf_of t s ≡ Some (match_of t i).leaf
      unfolding leaf_of
      leaf-one e = ap single (tie-on ∙ ap (λ (o : Option ℕ). (match_of t i).leaf ∷ tie_at t o) e)

      pub leaf-tied : (j : ℕ) → next_tied t i ≡ Some j → leaf_of t s ≡ None
      unfolding leaf_of
      leaf-tied j e =
          let l = top-low s i top in
          let b = next-tied-low i j l.0 l.1 e in
          ap single (tie-on ∙ ap (λ (o : Option ℕ). (match_of t i).leaf ∷ tie_at t o) e ∙ ap {B = List ℕ} (λ r. (match_of t i).leaf ∷ r) (tie-step j b.0 (omega arith)))
