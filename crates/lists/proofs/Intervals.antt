-- Tests of the numbers of an interval, s and on: passed by every one, by some one, by how many. Assumes nothing.
use mathlib.Core.Path.{◌≡◌, refl, sym, ap, ◌∙◌}
use mathlib.Core.Bool.{Bool, true, false, cond, false≢true}
use mathlib.Core.List.{List}
use mathlib.Core.Logic.{◌⊎◌, inl, inr, ⊎_elim}
use Prim.Native.Nat.{ℕ, zero, suc, ◌+◌, ◌≤◌, ◌<◌}
use native.Mathlib.Omega.{arith}
use lib.ListN.{length, get_or}
use mathlib.Core.Bool.{◌&&◌}
use native.Mathlib.Numerals.{add-one}
use Rattle.std.specs.List.{list_all, range_with_len}
use Rattle.lists.specs.Lists.{tab, all_l, any_l, those}
use Rattle.lists.proofs.Bools.{Is, is, yes-is, no-is, and_both, and_intro, or_cases, Order, order, less, equal, more, or-neither, bool-ext}
use Rattle.lists.proofs.Elements.{all-intro, all-at}

-- the m numbers from s on
abbrev pub from : ℕ → ℕ → List ℕ
from s m = tab s m (λ i. i)

-- a number of the interval is its first, or one of the rest
first-or-rest : (s m i : ℕ) → s ≤ i → i < s + suc m → (i ≡ s) ⊎ ((suc s ≤ i) × (i < suc s + m))
first-or-rest s m i l u = go (order s i)
  where
    go : Order s i → (i ≡ s) ⊎ ((suc s ≤ i) × (i < suc s + m))
    go (less h) = inr (h, omega arith)
    go (equal h) = inl (sym h)
    go (more h) = absurd (omega arith)

module _ (p : ℕ → Bool) where
  pub all_from : (m s : ℕ) → all_l p (from s m) ≡ true → (i : ℕ) → s ≤ i → i < s + m → p i ≡ true
  all_from zero s a i l u = absurd (omega arith)
  all_from (suc m) s a i l u =
      let both = and_both (p s) _ a in
      ⊎_elim (λ e. ap p e ∙ both.0) (λ r. all_from m (suc s) both.1 i r.0 r.1) (first-or-rest s m i l u)

  pub from_all : (m s : ℕ) → ((i : ℕ) → s ≤ i → i < s + m → p i ≡ true) → all_l p (from s m) ≡ true
  from_all zero s f = refl
  from_all (suc m) s f = and_intro (p s) _ (f s (omega arith) (omega arith)) (from_all m (suc s) (λ i l u. f i (omega arith) (omega arith)))

  -- `all` over a range
  pub all-range : (m s : ℕ) → list_all p (range_with_len s m) ≡ all_l p (from s m)
  all-range zero s = refl
  all-range (suc m) s = ap (λ b. p s && b) (ap (λ k. list_all p (range_with_len k m)) (add-one s) ∙ all-range m (suc s))

  -- a number of the interval that passes
  abbrev pub Passed : ℕ → ℕ → Type 0
  Passed m s = (i : ℕ) × (s ≤ i) × (i < s + m) × (p i ≡ true)

  here : (m s : ℕ) → p s ≡ true → Passed (suc m) s
  here m s h = (s, omega arith, omega arith, h)

  later : (m s : ℕ) → Passed m (suc s) → Passed (suc m) s
  later m s f = let (i, l, u, e) = f in (i, omega arith, omega arith, e)

  pub some-from : (m s : ℕ) → any_l p (from s m) ≡ true → Passed m s
  some-from zero s a = absurd (false≢true a)
  some-from (suc m) s a = ⊎_elim (λ h. here m s h) (λ h. later m s (some-from m (suc s) h)) (or_cases (p s) _ a)

  pub none_from : (m s : ℕ) → any_l p (from s m) ≡ false → (i : ℕ) → s ≤ i → i < s + m → p i ≡ false
  none_from zero s a i l u = absurd (omega arith)
  none_from (suc m) s a i l u =
      let neither = or-neither (p s) _ a in
      ⊎_elim (λ e. ap p e ∙ neither.0) (λ r. none_from m (suc s) neither.1 i r.0 r.1) (first-or-rest s m i l u)

  -- ---- how many pass

  those-yes : (s m : ℕ) → p s ≡ true → length (those p (from s (suc m))) ≡ suc (length (those p (from (suc s) m)))
  those-yes s m h = rw (h, those)

  those-no : (s m : ℕ) → p s ≡ false → length (those p (from s (suc m))) ≡ length (those p (from (suc s) m))
  those-no s m h = rw (h, those)

  -- some number passes where the count is not 0
  pub counted-from : (m s : ℕ) → 0 < length (those p (from s m)) → Passed m s
  counted-from zero s h = absurd (omega arith)
  counted-from (suc m) s h = go (is (p s)) (counted-from m (suc s))
    where
      go : Is (p s) → (0 < length (those p (from (suc s) m)) → Passed m (suc s)) → Passed (suc m) s
      go (yes-is e) f = here m s e
      go (no-is e) f = later m s (f (rw (those-no s m e) at h))

  -- none passes where the count is 0
  pub count_none : (m s : ℕ) → ((i : ℕ) → s ≤ i → i < s + m → p i ≡ false) → length (those p (from s m)) ≡ 0
  count_none zero s f = refl
  count_none (suc m) s f = those-no s m (f s (omega arith) (omega arith)) ∙ count_none m (suc s) (λ i l u. f i (omega arith) (omega arith))

  pub count_most : (m s : ℕ) → length (those p (from s m)) ≤ m
  count_most zero s = omega arith
  count_most (suc m) s = go (is (p s)) (count_most m (suc s))
    where
      go : Is (p s) → length (those p (from (suc s) m)) ≤ m → length (those p (from s (suc m))) ≤ suc m
      go (yes-is e) h = rw (those-yes s m e) (omega arith)
      go (no-is e) h = rw (those-no s m e) (omega arith)

  -- one number more, at the end
  pub count-more : (m s : ℕ) → length (those p (from s (suc m))) ≡ length (those p (from s m)) + cond (p (s + m)) 1 0
  count-more zero s = go (is (p s))
    where
      same : p (s + 0) ≡ p s
      same = ap p (omega arith)

      go : Is (p s) → length (those p (from s 1)) ≡ 0 + cond (p (s + 0)) 1 0
      go (yes-is e) = rw (those-yes s 0 e, same, e) (omega arith)
      go (no-is e) = rw (those-no s 0 e, same, e) (omega arith)
  count-more (suc m) s = go (is (p s)) (count-more m (suc s))
    where
      same : p (s + suc m) ≡ p (suc s + m)
      same = ap p (omega arith)

      go : Is (p s) → length (those p (from (suc s) (suc m))) ≡ length (those p (from (suc s) m)) + cond (p (suc s + m)) 1 0
          → length (those p (from s (suc (suc m)))) ≡ length (those p (from s (suc m))) + cond (p (s + suc m)) 1 0
      go (yes-is e) h = rw (those-yes s (suc m) e, those-yes s m e, same) (omega arith)
      go (no-is e) h = rw (those-no s (suc m) e, those-no s m e, same) (omega arith)

-- the elements of a list, tested place by place
pub all-placed : {A : Type 0} (p : A → Bool) (l : List A) (d : A) (q : ℕ → Bool) (n : ℕ) → length l ≡ n → ((i : ℕ) → i < n → q i ≡ p (get_or l i d))
    → all_l q (from 0 n) ≡ all_l p l
all-placed p l d q n e same =
    bool-ext _ _
    (λ t. all-intro p l d (λ i h. sym (same i (omega arith)) ∙ all_from q n 0 t i (omega arith) (omega arith)))
    (λ t. from_all q n 0 (λ i h u. same i (omega arith) ∙ all-at p l i d t (omega arith)))
