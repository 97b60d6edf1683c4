-- The elements at the members of a set: gathered from the front; from a place on, where the first is taken or passed; and those of them that pass a
-- test. Assumes nothing.
use mathlib.Core.Path.{◌≡◌, refl, sym, ap}
use mathlib.Core.Bool.{Bool, true, false, false≢true}
use mathlib.Core.List.{List, [], ◌∷◌, ◌++◌}
use Prim.Native.Nat.{ℕ, zero, suc, ◌+◌, ◌≤◌, ◌<◌, zero-le, suc-le-suc}
use native.Mathlib.Nat.{not-suc-le-zero, le_of_suc-le-suc}
use native.Mathlib.Numerals.{add-one}
use native.Mathlib.Omega.{arith}
use lib.ListN.{length, get_or, take, drop}
use Rattle.lists.specs.Lists.{those, select}
use Rattle.lists.specs.Sets.{In}
use Rattle.lists.proofs.Bools.{Is, is, yes-is, no-is}
use Rattle.lists.proofs.Elements.{nil-cons}

module _ {A : Type 0} (d : A) where
  -- each was an element
  pub select-from : (keep : List Bool) (l : List A) (i : ℕ) → i < length (select keep l) → (s : ℕ) × (s < length l) × (get_or (select keep l) i d ≡ get_or l s d)
  select-from [] l i h = absurd (not-suc-le-zero h)
  select-from (b ∷ keep) [] i h = absurd (not-suc-le-zero h)
  select-from (true ∷ keep) (x ∷ l) zero h = (0, suc-le-suc zero-le, refl)
  select-from (true ∷ keep) (x ∷ l) (suc i) h = let (s, b, e) = select-from keep l i (le_of_suc-le-suc h) in (suc s, suc-le-suc b, e)
  select-from (false ∷ keep) (x ∷ l) i h = let (s, b, e) = select-from keep l i h in (suc s, suc-le-suc b, e)

  -- one more that is a member is gathered, one that is none is not
  pub select_in : (keep : List Bool) (l : List A) (s : ℕ) → s < length l → In keep s → select (take (s + 1) keep) l ≡ select (take s keep) l ++ (get_or l s d ∷ [])
  select_in keep l s h i = rw add-one (go keep l s h i)
    where
      go : (keep : List Bool) (l : List A) (s : ℕ) → s < length l → In keep s → select (take (suc s) keep) l ≡ select (take s keep) l ++ (get_or l s d ∷ [])
      go [] l s h i = absurd (false≢true i)
      go (b ∷ keep) [] s h i = absurd (not-suc-le-zero h)
      go (true ∷ keep) (x ∷ l) zero h i = refl
      go (false ∷ keep) (x ∷ l) zero h i = absurd (false≢true i)
      go (true ∷ keep) (x ∷ l) (suc s) h i = ap (◌∷◌ x) (go keep l s (le_of_suc-le-suc h) i)
      go (false ∷ keep) (x ∷ l) (suc s) h i = go keep l s (le_of_suc-le-suc h) i

module _ {A : Type 0} where
  pub select-out : (keep : List Bool) (l : List A) (s : ℕ) → get_or keep s false ≡ false → select (take (s + 1) keep) l ≡ select (take s keep) l
  select-out keep l s e = rw add-one (go keep l s e)
    where
      go : (keep : List Bool) (l : List A) (s : ℕ) → get_or keep s false ≡ false → select (take (suc s) keep) l ≡ select (take s keep) l
      go [] l zero e = refl
      go [] l (suc s) e = refl
      go (true ∷ keep) l zero e = absurd (false≢true (sym e))
      go (false ∷ keep) [] zero e = refl
      go (false ∷ keep) (x ∷ l) zero e = refl
      go (b ∷ keep) [] (suc s) e = refl
      go (true ∷ keep) (x ∷ l) (suc s) e = ap (◌∷◌ x) (go keep l s e)
      go (false ∷ keep) (x ∷ l) (suc s) e = go keep l s e

  -- what stands past the list's end gathers nothing
  pub select-whole : (keep : List Bool) (l : List A) (n : ℕ) → length l ≤ n → select (take n keep) l ≡ select keep l
  select-whole [] l zero h = refl
  select-whole [] l (suc n) h = refl
  select-whole (b ∷ keep) [] zero h = refl
  select-whole (b ∷ keep) [] (suc n) h = refl
  select-whole (b ∷ keep) (x ∷ l) zero h = absurd (not-suc-le-zero h)
  select-whole (true ∷ keep) (x ∷ l) (suc n) h = ap (◌∷◌ x) (select-whole keep l n (le_of_suc-le-suc h))
  select-whole (false ∷ keep) (x ∷ l) (suc n) h = select-whole keep l n (le_of_suc-le-suc h)

  pub select-le : (keep : List Bool) (l : List A) → length (select keep l) ≤ length l
  select-le [] l = zero-le
  select-le (b ∷ keep) [] = zero-le
  select-le (true ∷ keep) (x ∷ l) = suc-le-suc (select-le keep l)
  select-le (false ∷ keep) (x ∷ l) = let h = select-le keep l in omega arith

  -- no more than the numbers passed
  pub select-few : (keep : List Bool) (l : List A) (n : ℕ) → length (select (take n keep) l) ≤ n
  select-few keep l zero = zero-le
  select-few [] l (suc n) = zero-le
  select-few (b ∷ keep) [] (suc n) = zero-le
  select-few (true ∷ keep) (x ∷ l) (suc n) = suc-le-suc (select-few keep l n)
  select-few (false ∷ keep) (x ∷ l) (suc n) = let h = select-few keep l n in omega arith

-- ---- from a place on

module _ {A : Type 0} where
  pub select-here : (set : List Bool) (s : ℕ) (x : A) (l : List A) → get_or set s false ≡ true → select (drop s set) (x ∷ l) ≡ x ∷ select (drop (suc s) set) l
  select-here [] s x l h = absurd (false≢true h)
  select-here (true ∷ set) zero x l h = refl
  select-here (false ∷ set) zero x l h = absurd (false≢true h)
  select-here (b ∷ set) (suc s) x l h = select-here set s x l h

  pub select-past : (set : List Bool) (s : ℕ) (x : A) (l : List A) → get_or set s false ≡ false → select (drop s set) (x ∷ l) ≡ select (drop (suc s) set) l
  select-past [] zero x l h = refl
  select-past [] (suc s) x l h = refl
  select-past (true ∷ set) zero x l h = absurd (false≢true (sym h))
  select-past (false ∷ set) zero x l h = refl
  select-past (b ∷ set) (suc s) x l h = select-past set s x l h

  pub select-none : (set : List Bool) → select {A = A} set [] ≡ []
  select-none [] = refl
  select-none (b ∷ set) = refl

-- ---- those at the members that pass a test: none, just if none passes

module _ {A : Type 0} (p : A → Bool) (d : A) where
  pub none_passes : (set : List Bool) (l : List A) → those p (select set l) ≡ [] → (i : ℕ) → i < length l → In set i → p (get_or l i d) ≡ false
  none_passes [] l e i h m = absurd (false≢true m)
  none_passes (b ∷ set) [] e i h m = absurd (not-suc-le-zero h)
  none_passes (false ∷ set) (x ∷ l) e zero h m = absurd (false≢true m)
  none_passes (false ∷ set) (x ∷ l) e (suc i) h m = none_passes set l e i (le_of_suc-le-suc h) m
  none_passes (true ∷ set) (x ∷ l) e i h m = go (is (p x)) (none_passes set l) i h m
    where
      go : Is (p x) → (those p (select set l) ≡ [] → (i : ℕ) → i < length l → In set i → p (get_or l i d) ≡ false)
          → (i : ℕ) → i < length (x ∷ l) → In (true ∷ set) i → p (get_or (x ∷ l) i d) ≡ false
      go (yes-is q) f i h m = absurd (nil-cons (rw (q, those) at e))
      go (no-is q) f zero h m = q
      go (no-is q) f (suc i) h m = f (rw (q, those) at e) i (le_of_suc-le-suc h) m

  pub passes_none : (set : List Bool) (l : List A) → ((i : ℕ) → i < length l → In set i → p (get_or l i d) ≡ false) → those p (select set l) ≡ []
  passes_none [] l f = refl
  passes_none (b ∷ set) [] f = refl
  passes_none (false ∷ set) (x ∷ l) f = passes_none set l (λ i h. f (suc i) (suc-le-suc h))
  passes_none (true ∷ set) (x ∷ l) f =
      let q : p x ≡ false = f 0 (suc-le-suc zero-le) refl in
      rw (q, those) (passes_none set l (λ i h. f (suc i) (suc-le-suc h)))
