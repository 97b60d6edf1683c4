-- Lists of numbers that rise strictly: a part of one rises, and one whose elements are below m has at most m of them. Assumes nothing.
use mathlib.Core.Path.{◌≡◌, refl}
use mathlib.Core.Bool.{Bool, true}
use mathlib.Core.List.{List, [], ◌∷◌}
use Prim.Native.Nat.{ℕ, zero, suc, ◌-◌, ◌≤◌, ◌<◌, zero-le}
use native.Mathlib.Nat.{not-suc-le-zero, le_of_suc-le-suc}
use native.Mathlib.Omega.{arith}
use borrow.Author.Tests.{ltb-true, leb-true, lt-ltb, le-leb}
use lib.Dec.{ltb, leb}
use lib.ListN.{length, get_or}
use Rattle.lists.specs.Lists.{tab, below, all_l, those}
use Rattle.lists.proofs.Bools.{Is, is, yes-is, no-is, and_both, and_intro}
use Rattle.lists.proofs.Elements.{all-at}
use Rattle.lists.proofs.Those.{those-keep}

pub data Rising : List ℕ → Type 0 where
  rising-nil : Rising []
  rising-cons : {x : ℕ} {l : List ℕ} → all_l (ltb x) l ≡ true → Rising l → Rising (x ∷ l)

pub rising-at : (l : List ℕ) → Rising l → (i j : ℕ) → i < j → j < length l → get_or l i 0 < get_or l j 0
rising-at [] r i j h b = absurd (not-suc-le-zero b)
rising-at (x ∷ l) (rising-cons a r) zero zero h b = absurd (not-suc-le-zero h)
rising-at (x ∷ l) (rising-cons a r) zero (suc j) h b = ltb-true x (get_or l j 0) (all-at (ltb x) l j 0 a (le_of_suc-le-suc b))
rising-at (x ∷ l) (rising-cons a r) (suc i) zero h b = absurd (not-suc-le-zero h)
rising-at (x ∷ l) (rising-cons a r) (suc i) (suc j) h b = rising-at l r i j (le_of_suc-le-suc h) (le_of_suc-le-suc b)

-- the numbers from i on
above-tab : (x i n : ℕ) → x < i → all_l (ltb x) (tab i n (λ k. k)) ≡ true
above-tab x i zero h = refl
above-tab x i (suc n) h = and_intro _ _ (lt-ltb x i h) (above-tab x (suc i) n (omega arith))

rising-tab : (i n : ℕ) → Rising (tab i n (λ k. k))
rising-tab i zero = rising-nil
rising-tab i (suc n) = rising-cons (above-tab i (suc i) n (omega arith)) (rising-tab (suc i) n)

pub rising-below : (n : ℕ) → Rising (below n)
rising-below n = rising-tab 0 n

pub rising-those : (p : ℕ → Bool) (l : List ℕ) → Rising l → Rising (those p l)
rising-those p [] r = rising-nil
rising-those p (x ∷ l) (rising-cons a r) = go (is (p x)) (rising-those p l r)
  where
    go : Is (p x) → Rising (those p l) → Rising (those p (x ∷ l))
    go (yes-is q) s = rw (q, those) (rising-cons (those-keep p (ltb x) l a) s)
    go (no-is q) s = rw (q, those) s

-- between a and m there are m - a places
rising-between : (a m : ℕ) (l : List ℕ) → Rising l → all_l (leb a) l ≡ true → all_l (λ x. ltb x m) l ≡ true → length l ≤ m - a
rising-between a m [] r lo hi = zero-le
rising-between a m (x ∷ l) (rising-cons b r) lo hi =
    let h : a ≤ x = leb-true a x (and_both (leb a x) _ lo).0 in
    let g : x < m = ltb-true x m (and_both (ltb x m) _ hi).0 in
    let e : length l ≤ m - suc x = rising-between (suc x) m l r (above l b) (and_both (ltb x m) _ hi).1 in
    omega arith
  where
    above : (l : List ℕ) → all_l (ltb x) l ≡ true → all_l (leb (suc x)) l ≡ true
    above [] q = q
    above (y ∷ l) q = and_intro _ _ (le-leb (suc x) y (ltb-true x y (and_both (ltb x y) _ q).0)) (above l (and_both (ltb x y) _ q).1)

pub rising-few : (m : ℕ) (l : List ℕ) → Rising l → all_l (λ x. ltb x m) l ≡ true → length l ≤ m
rising-few m l r hi = let e = rising-between 0 m l r (least l) hi in omega arith
  where
    least : (l : List ℕ) → all_l (leb 0) l ≡ true
    least [] = refl
    least (x ∷ l) = and_intro _ _ (le-leb 0 x zero-le) (least l)
