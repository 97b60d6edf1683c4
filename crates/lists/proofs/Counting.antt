-- The number of a set's members, and the counting argument: sets below n, each within the next, of which two in a row that are the same settle all
-- that follow, are settled after n of them (`settled`). Assumes nothing.
use mathlib.Core.Path.{◌≡◌, refl, ap}
use mathlib.Core.Bool.{Bool, true, false, false≢true}
use mathlib.Core.List.{List, [], ◌∷◌}
use mathlib.Core.Logic.{◌⊎◌, inl, inr, ⊎_elim}
use Prim.Native.Nat.{ℕ, zero, suc, ◌+◌, ◌≤◌, zero-le, suc-le-suc}
use native.Mathlib.Nat.{eq-or-lt_of_le}
use native.Mathlib.Omega.{arith}
use lib.ListN.{length}
use Rattle.lists.specs.Sets.{Sub, count}

pub count-length : (l : List Bool) → count l ≤ length l
count-length [] = zero-le
count-length (true ∷ l) = suc-le-suc (count-length l)
count-length (false ∷ l) = let h = count-length l in omega arith

pub count-le : (a b : List Bool) → Sub a b → count a ≤ count b
count-le [] b h = zero-le
count-le (true ∷ a) [] h = absurd (false≢true (h zero refl))
count-le (false ∷ a) [] h = count-le a [] (λ i. h (suc i))
count-le (true ∷ a) (true ∷ b) h = suc-le-suc (count-le a b (λ i. h (suc i)))
count-le (true ∷ a) (false ∷ b) h = absurd (false≢true (h zero refl))
count-le (false ∷ a) (true ∷ b) h = let r = count-le a b (λ i. h (suc i)) in omega arith
count-le (false ∷ a) (false ∷ b) h = count-le a b (λ i. h (suc i))

-- a set in another of as many members is that other
pub count-eq : (a b : List Bool) → length a ≡ length b → Sub a b → count b ≤ count a → a ≡ b
count-eq [] [] e h c = refl
count-eq [] (y ∷ b) e h c = absurd (omega arith)
count-eq (x ∷ a) [] e h c = absurd (omega arith)
count-eq (true ∷ a) (true ∷ b) e h c = ap (◌∷◌ true) (count-eq a b (omega arith) (λ i. h (suc i)) (omega arith))
count-eq (true ∷ a) (false ∷ b) e h c = absurd (false≢true (h zero refl))
count-eq (false ∷ a) (true ∷ b) e h c = let r = count-le a b (λ i. h (suc i)) in absurd (omega arith)
count-eq (false ∷ a) (false ∷ b) e h c = ap (◌∷◌ false) (count-eq a b (omega arith) (λ i. h (suc i)) c)

-- ---- sets that grow

module _ (n : ℕ) (s : ℕ → List Bool) (wide : (k : ℕ) → length (s k) ≡ n) (grows : (k : ℕ) → Sub (s k) (s (suc k))) (Settled : ℕ → Type 0)
    (settles : (k : ℕ) → s k ≡ s (suc k) → Settled k) (stays : (k : ℕ) → Settled k → Settled (suc k)) (c : ℕ) (begun : c ≤ count (s 0)) where
  -- the next set is the same, or has a member more
  onward : (k : ℕ) → Settled k ⊎ (count (s k) + 1 ≤ count (s (suc k)))
  onward k =
      let a = wide k in
      let b = wide (suc k) in
      ⊎_elim
      (λ same. inl (settles k (count-eq (s k) (s (suc k)) (omega arith) (grows k) (omega arith))))
      (λ more. inr (omega arith))
      (eq-or-lt_of_le (count-le (s k) (s (suc k)) (grows k)))

  progress : (k : ℕ) → Settled k ⊎ (c + k ≤ count (s k))
  progress zero = inr (omega (arith, begun))
  progress (suc k) = ⊎_elim (λ st. inl (stays k st)) (λ m. ⊎_elim (λ st. inl (stays k st)) (λ o. inr (omega arith)) (onward k)) (progress k)

  -- where the first set has c members
  pub settled : (k : ℕ) → n ≤ c + k → Settled k
  settled k h =
      let few = count-length (s (suc k)) in
      let w = wide (suc k) in
      ⊎_elim (λ st. st) (λ m. ⊎_elim (λ st. st) (λ o. absurd (omega arith)) (onward k)) (progress k)
