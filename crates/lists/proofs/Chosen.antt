-- The members of a set that pass a test, from s on, of n, as a loop meets them that goes down from the last. Assumes nothing.
use mathlib.Core.Path.{◌≡◌, ap}
use mathlib.Core.Bool.{Bool, true, false, ◌&&◌}
use mathlib.Core.List.{List, [], ◌∷◌}
use Prim.Native.Nat.{ℕ, suc, ◌-◌, ◌<◌}
use native.Mathlib.Omega.{arith}
use lib.ListN.{get_or, drop}
use Rattle.lists.specs.Lists.{tab, below, those, select}
use Rattle.lists.proofs.Bools.{Is, is, yes-is, no-is, and_both}
use Rattle.lists.proofs.Selecting.{select-here, select-past, select-none}

unfoldable pub chosen_on : ℕ → List Bool → (ℕ → Bool) → ℕ → List ℕ
chosen_on n set p s = those p (select (drop s set) (tab s (n - s) (λ i. i)))

module _ (n : ℕ) (set : List Bool) (p : ℕ → Bool) where
  pub chosen-end : chosen_on n set p n ≡ []
  unfolding chosen_on
  chosen-end = let e : n - n ≡ 0 = omega arith in rw (e, select-none {A = ℕ} (drop n set))

  pub chosen-all : chosen_on n set p 0 ≡ those p (select set (below n))
  unfolding chosen_on
  chosen-all = let e : n - 0 ≡ n = omega arith in rw e

  -- s, and those after it
  module _ (s : ℕ) (h : s < n) where
    on : tab s (n - s) (λ i. i) ≡ s ∷ tab (suc s) (n - suc s) (λ i. i)
    on = let e : n - s ≡ suc (n - suc s) = omega arith in ap (λ (k : ℕ). tab s k (λ i. i)) e

    pub chosen-pass : (get_or set s false && p s) ≡ false → chosen_on n set p s ≡ chosen_on n set p (suc s)
    unfolding chosen_on
    chosen-pass q = go (is (get_or set s false))
      where
        go : Is (get_or set s false) → chosen_on n set p s ≡ chosen_on n set p (suc s)
        go (no-is o) = rw (on, select-past set s s (tab (suc s) (n - suc s) (λ i. i)) o)
        go (yes-is m) = rw (on, select-here set s s (tab (suc s) (n - suc s) (λ i. i)) m) (rw (rw m at q, those))

    pub chosen_more : (get_or set s false && p s) ≡ true → chosen_on n set p s ≡ s ∷ chosen_on n set p (suc s)
    unfolding chosen_on
    chosen_more q =
        let (m, r) = and_both (get_or set s false) (p s) q in
        rw (on, select-here set s s (tab (suc s) (n - suc s) (λ i. i)) m) (rw (r, those))
