-- Refusal 11 is decided at the root: some record's value is above the limit just where the root's tree passes it, since every record but the
-- root is named by a later one. Assumes nothing.
use mathlib.Core.Path.{◌≡◌, refl, sym, ap, ◌∙◌}
use mathlib.Core.Bool.{true, false, ◌||◌}
use mathlib.Core.List.{List}
use mathlib.Core.Logic.{◌⊎◌, inl, inr, ⊎_elim}
use Prim.Native.Nat.{ℕ, zero, suc, ◌+◌, ◌-◌, ◌<◌, ◌≤◌}
use native.Mathlib.Omega.{arith}
use lib.Dec.{eqb, ltb}
use lib.ListN.{length, get_or}
use borrow.Author.Tests.{eqb-true, ltb-true, ltb-false, le-ltb}
use Rattle.lists.specs.Lists.{those}
use Rattle.lists.proofs.Bools.{Is, is, yes-is, no-is, or_left, or_right, or-false, lt-or-le, or-neither, neither-or}
use Rattle.lists.proofs.Intervals.{some-from, none_from, counted-from}
use Rattle.trees.specs.Layout.{repetition_kind, concat_kind, kind_count}
use Rattle.trees.specs.Tree.{Tree, Chain, empty, done, part, first_of, count, record_of, numbers, shapes, tree_of, chain_at, tree_at, root, named, tree_fits}
use Rattle.pattern.specs.Priority.{priority, limit, value_at, too_high}
use Rattle.pattern.specs.Priced.{passes, some_passes}
use Rattle.trees.specs.declared.tree.Record.{Record}
use Rattle.trees.proofs.KindRules.{by_kind}
use Rattle.pattern.proofs.PricedLaws.{within}
use Rattle.trees.proofs.TreeLaws.{zero_or, tree-rules, rules-of, child-there, child-none, named_by, chain-none, chain-part, first-child}

passes-above : (t : Tree) → limit < priority t → passes t ≡ true
passes-above t h = go (is (passes t))
  where
    go : Is (passes t) → passes t ≡ true
    go (yes-is e) = e
    go (no-is e) = let v : priority t ≤ limit = within t e in absurd (omega arith)

-- ---- a tree passes the limit by its own value or in its children

first-quiet : (c : Chain) → some_passes c ≡ false → passes (first_of c) ≡ false
unfolding some_passes passes
first-quiet done h = refl
first-quiet (part t c) h = (or-neither (passes t) (some_passes c) h).0

quiet : (bytes : List ℕ) (r : Record) (c : Chain) → some_passes c ≡ false → (k : ℕ) → k < kind_count → priority (get_or (shapes bytes r c) k empty) ≤ limit → passes (get_or (shapes bytes r c) k empty) ≡ false
unfolding passes priority
quiet bytes r c h =
    by_kind (λ k. priority (get_or (shapes bytes r c) k empty) ≤ limit → passes (get_or (shapes bytes r c) k empty) ≡ false)
    (λ v. refl)
    (λ v. le-ltb _ _ v)
    (λ v. refl)
    (λ v. refl)
    (λ v. neither-or _ _ (first-quiet c h) (le-ltb _ _ v))
    (λ v. first-quiet c h)
    (λ v. neither-or _ _ h (le-ltb _ _ v))
    (λ v. neither-or _ _ h (le-ltb _ _ v))

loud : (bytes : List ℕ) (r : Record) (c : Chain) → some_passes c ≡ true → (k : ℕ) → k < kind_count → repetition_kind ≤ k → (k < concat_kind → passes (first_of c) ≡ true) → passes (get_or (shapes bytes r c) k empty) ≡ true
unfolding passes
loud bytes r c h =
    by_kind (λ k. repetition_kind ≤ k → (k < concat_kind → passes (first_of c) ≡ true) → passes (get_or (shapes bytes r c) k empty) ≡ true)
    (λ l f. absurd (omega arith))
    (λ l f. absurd (omega arith))
    (λ l f. absurd (omega arith))
    (λ l f. absurd (omega arith))
    (λ l f. or_left _ _ (f (omega arith)))
    (λ l f. f (omega arith))
    (λ l f. or_left _ _ h)
    (λ l f. or_left _ _ h)

module _ (w bytes : List ℕ) (fits : tree_fits w bytes ≡ true) where
  -- ---- no value above: nothing passes

  module _ (low : (i : ℕ) → 0 < i → i ≤ count w → value_at w bytes i ≤ limit) where
    tree-quiet : (i : ℕ) → 0 < i → i ≤ count w → some_passes (chain_at w bytes (record_of w i).child) ≡ false → passes (tree_at w bytes i) ≡ false
    unfolding tree_at tree_of value_at
    tree-quiet i p h q = quiet bytes (record_of w i) (chain_at w bytes (record_of w i).child) q (record_of w i).kind (rules-of w bytes fits i p h).kind (low i p h)

    chain-quiet : (k i : ℕ) → i ≤ k → i ≤ count w → some_passes (chain_at w bytes i) ≡ false
    unfolding some_passes chain_at
    chain-quiet zero i a h = let e : i ≡ 0 = omega arith in rw e (ap some_passes (chain-none w bytes fits 0))
    chain-quiet (suc k) i a h =
        zero_or i (λ e. rw e (ap some_passes (chain-none w bytes fits 0)))
        (λ p.
        let rules = rules-of w bytes fits i p h in
        ap some_passes (chain-part w bytes fits i p h)
        ∙ neither-or (passes (tree_at w bytes i)) (some_passes (chain_at w bytes (record_of w i).next))
        (tree-quiet i p h (chain-quiet k (record_of w i).child (omega (arith, rules.child)) (omega (arith, rules.child))))
        (chain-quiet k (record_of w i).next (omega (arith, rules.next)) (omega (arith, rules.next))))

  -- ---- what passes below a record passes at the root

  -- the chain of a record with no next passes where its tree does
  alone : (i : ℕ) → 0 < i → i ≤ count w → (record_of w i).next ≡ 0 → some_passes (chain_at w bytes i) ≡ true → passes (tree_at w bytes i) ≡ true
  unfolding chain_at some_passes
  alone i p h e q =
      let rest : chain_at w bytes (record_of w i).next ≡ done = ap {B = Chain} (chain_at w bytes) e ∙ chain-none w bytes fits 0 in
      let whole = chain-part w bytes fits i p h ∙ ap {B = Chain} (part (tree_at w bytes i)) rest in
      sym (or-false (passes (tree_at w bytes i))) ∙ sym (ap some_passes whole) ∙ q

  -- if the tree of j passes, or the rest of its chain, so does its chain
  chain-loud : (j : ℕ) → 0 < j → j ≤ count w → (passes (tree_at w bytes j) || some_passes (chain_at w bytes (record_of w j).next)) ≡ true → some_passes (chain_at w bytes j) ≡ true
  unfolding some_passes
  chain-loud j p h q = ap some_passes (chain-part w bytes fits j p h) ∙ q

  by-child : (j : ℕ) → 0 < j → j ≤ count w → 0 < (record_of w j).child → some_passes (chain_at w bytes (record_of w j).child) ≡ true → some_passes (chain_at w bytes j) ≡ true
  unfolding tree_at tree_of
  by-child j p h l q =
      let r = record_of w j in
      let rules = rules-of w bytes fits j p h in
      let down : r.child ≤ count w = omega (arith, rules.child) in
      let tall : repetition_kind ≤ r.kind = ⊎_elim (λ u. let e : r.child ≡ 0 = child-none w bytes fits j p h u in absurd (omega arith)) (λ u. u) (lt-or-le r.kind repetition_kind) in
      let only : r.kind < concat_kind → passes (first_of (chain_at w bytes r.child)) ≡ true =
      λ u. ap passes (first-child w bytes fits r.child l down) ∙ alone r.child l down (child-there w bytes fits j p h tall u).1 q in
      chain-loud j p h (or_left _ _ (loud bytes r (chain_at w bytes r.child) q r.kind rules.kind tall only))

  by_next : (j : ℕ) → 0 < j → j ≤ count w → some_passes (chain_at w bytes (record_of w j).next) ≡ true → some_passes (chain_at w bytes j) ≡ true
  by_next j p h q = chain-loud j p h (or_right (passes (tree_at w bytes j)) _ q)

  -- a record that is named is named by a later one, as first child or as next
  Namer : ℕ → Type 0
  Namer i = (j : ℕ) × (0 < j) × (j ≤ count w) × (((record_of w j).child ≡ i) ⊎ ((record_of w j).next ≡ i))

  namer : (i : ℕ) → 1 ≤ named w i → Namer i
  unfolding named Namer
  namer i n =
      zero_or (length (those (λ j. eqb (record_of w j).child i) (numbers w)))
      (λ none. let (j, l, u, e) = counted-from (λ j. eqb (record_of w j).next i) (count w) 1 (omega arith) in (j, l, omega arith, inr (eqb-true _ _ e)))
      (λ some. let (j, l, u, e) = counted-from (λ j. eqb (record_of w j).child i) (count w) 1 some in (j, l, omega arith, inl (eqb-true _ _ e)))

  top : (i : ℕ) → i ≡ count w → some_passes (chain_at w bytes i) ≡ true → passes (root w bytes) ≡ true
  unfolding root
  top i e q = let rules = tree-rules w bytes fits in alone (count w) rules.some (omega arith) rules.last (rw e at q)

  climb : (d i : ℕ) → count w ≤ i + d → 0 < i → i ≤ count w → some_passes (chain_at w bytes i) ≡ true → passes (root w bytes) ≡ true
  unfolding Namer
  climb zero i a p h q = top i (omega arith) q
  climb (suc d) i a p h q =
      zero_or (count w - i)
      (λ z. top i (omega arith) q)
      (λ z.
      let (j, l, u, f) = namer i (named_by w bytes fits i p h (omega arith)) in
      let rules = rules-of w bytes fits j l u in
      ⊎_elim
      (λ e. climb d j (omega (arith, rules.child)) l u (by-child j l u (rw e p) (rw e q)))
      (λ e. climb d j (omega (arith, rules.next)) l u (by_next j l u (rw e q)))
      f)

  pub too-high : too_high w bytes ≡ passes (root w bytes)
  unfolding too_high value_at root some_passes
  too-high = go (is (too_high w bytes))
    where
      go : Is (too_high w bytes) → too_high w bytes ≡ passes (root w bytes)
      go (yes-is e) =
          let (i, l, u, v) = some-from (λ i. ltb limit (value_at w bytes i)) (count w) 1 e in
          let h = chain-loud i l (omega arith) (or_left _ _ (passes-above (tree_at w bytes i) (ltb-true _ _ v))) in
          e ∙ sym (climb (count w) i (omega arith) l (omega arith) h)
      go (no-is e) =
          let low : (i : ℕ) → 0 < i → i ≤ count w → value_at w bytes i ≤ limit =
          λ i p h. ltb-false _ _ (none_from (λ i. ltb limit (value_at w bytes i)) (count w) 1 e i p (omega arith)) in
          let some = (tree-rules w bytes fits).some in
          let q = chain-quiet low (count w) (count w) (omega arith) (omega arith) in
          e ∙ sym (or-neither (passes (tree_at w bytes (count w))) _ (sym (ap some_passes (chain-part w bytes fits (count w) some (omega arith))) ∙ q)).0
