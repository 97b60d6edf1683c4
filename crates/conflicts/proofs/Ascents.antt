-- In a legal table the leaves of a chain rise strictly and are below m, so a tie has at most so many as a table may have. By induction along the
-- chain, whose record numbers fall. Assumes nothing.
use mathlib.Core.Path.{◌≡◌, refl, sym}
use mathlib.Core.Bool.{true}
use mathlib.Core.List.{List, map}
use mathlib.Core.Logic.{◌⊎◌, inl, inr, ⊎_elim}
use Prim.Native.Nat.{ℕ, zero, suc, ◌≤◌, ◌<◌}
use native.Mathlib.Omega.{arith}
use borrow.Author.Tests.{eqb-true, eqb-false, lt-ltb}
use lib.Dec.{eqb, ltb}
use lib.ListN.{length, get_or}
use Rattle.lists.specs.Lists.{all_l, those}
use Rattle.lists.proofs.Bools.{Is, is, yes-is, no-is, and_intro}
use Rattle.lists.proofs.Those.{those-keep}
use Rattle.lists.proofs.Rising.{Rising, rising-nil, rising-cons, rising-those, rising-few}
use Rattle.graph_rules.specs.Table.{Table, table_of, match_of, refusal}
use Rattle.leaves.specs.Chains.{records, priority_at, tie_from}
use Rattle.legal.proofs.Legal.{legal-sized}
use Rattle.leaves.proofs.Records.{leaf-below, next-below, leaf-rises}
use Rattle.leaves.proofs.Contenders.{leaf_of_record, priority_of, those-leaf, records-end, records-step}
use Rattle.graph_rules.specs.Layout.{most_leaves}

module _ (w : List ℕ) (legal : refusal w ≡ 0) where
  abbrev t : Table
  t = table_of w

  abbrev leaves : ℕ → List ℕ
  leaves i = map (leaf_of_record t) (records t i)

  -- of the leaves ls of the chain from record i
  record Climbs (i : ℕ) (ls : List ℕ) : Type 0 where
    rises : Rising ls
    low : all_l (λ l. ltb l (get_or w 2 0)) ls ≡ true
    above : (x : ℕ) → (i ≡ 0) ⊎ (x < (match_of t i).leaf) → all_l (ltb x) ls ≡ true

  climbs-end : Climbs 0 (leaves 0)
  climbs-end = rw (records-end w legal) (record { rises = rising-nil; low = refl; above = λ x h. refl })

  climbs-on : (i : ℕ) → 0 < i → i ≤ get_or w 3 0 → Climbs (match_of t i).next (leaves (match_of t i).next) → Climbs i (leaves i)
  climbs-on i a h r =
      let l = (match_of t i).leaf in
      rw (records-step w legal i a h)
      (record {
        rises = rising-cons (r.above l (beyond l (inl refl) (is (eqb n 0)))) r.rises;
        low = and_intro _ _ (lt-ltb l (get_or w 2 0) (leaf-below w legal i a h)) r.low;
        above = λ x c. ⊎_elim (λ e. absurd (omega arith)) (λ b. and_intro (ltb x l) _ (lt-ltb x l b) (r.above x (beyond x (inr b) (is (eqb n 0))))) c;
      })
    where
      n : ℕ
      n = (match_of t i).next

      beyond : (x : ℕ) → (x ≡ (match_of t i).leaf) ⊎ (x < (match_of t i).leaf) → Is (eqb n 0) → (n ≡ 0) ⊎ (x < (match_of t n).leaf)
      beyond x c (yes-is z) = inl (eqb-true n 0 z)
      beyond x c (no-is z) =
          let z' : n ≡ 0 → ⊥ = eqb-false n 0 z in
          let u = leaf-rises w legal i a h (omega (arith, z')) in
          inr (⊎_elim (λ e. omega arith) (λ b. omega arith) c)

  climbs : (k i : ℕ) → i ≤ k → i ≤ get_or w 3 0 → Climbs i (leaves i)
  climbs zero i b h = let e : i ≡ 0 = omega arith in rw e climbs-end
  climbs (suc k) i b h = go (is (eqb i 0)) (climbs k)
    where
      go : Is (eqb i 0) → ((i : ℕ) → i ≤ k → i ≤ get_or w 3 0 → Climbs i (leaves i)) → Climbs i (leaves i)
      go (yes-is z) f = rw (eqb-true i 0 z) climbs-end
      go (no-is z) f =
          let z' : i ≡ 0 → ⊥ = eqb-false i 0 z in
          let a : 0 < i = omega (arith, z') in
          let n = next-below w legal i a h in
          climbs-on i a h (f (match_of t i).next (omega arith) (omega arith))

  -- ---- a tie

  tie-leaves : (i : ℕ) → tie_from t i ≡ those (λ l. eqb (priority_of t l) (priority_at t i)) (leaves i)
  unfolding tie_from
  tie-leaves i = sym (those-leaf t (priority_at t i) (records t i))

  tie-rises : (i : ℕ) → i ≤ get_or w 3 0 → Rising (tie_from t i)
  tie-rises i h = rw (tie-leaves i) (rising-those _ (leaves i) (climbs i i (omega arith) h).rises)

  tie-below : (i : ℕ) → i ≤ get_or w 3 0 → all_l (λ l. ltb l (get_or w 2 0)) (tie_from t i) ≡ true
  tie-below i h = rw (tie-leaves i) (those-keep _ (λ l. ltb l (get_or w 2 0)) (leaves i) (climbs i i (omega arith) h).low)

  pub tie-few : (i : ℕ) → i ≤ get_or w 3 0 → length (tie_from t i) ≤ most_leaves
  tie-few i h =
      let f = rising-few (get_or w 2 0) (tie_from t i) (tie-rises i h) (tie-below i h) in
      let z = legal-sized w legal in
      omega arith
