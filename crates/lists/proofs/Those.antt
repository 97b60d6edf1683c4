-- The elements of a list that pass a test; and the numbers below a bound that do, one number more at a time: what a loop collects or counts that
-- goes upward. Assumes nothing.
use mathlib.Core.Path.{◌≡◌, refl, sym, ap, ◌∙◌}
use mathlib.Core.Bool.{Bool, true, false, ◌&&◌, ◌||◌}
use mathlib.Core.List.{List, [], ◌∷◌, ◌++◌, append-nil, map}
use Prim.Native.Nat.{ℕ, zero, suc, ◌+◌, ◌≤◌, ◌<◌, zero-le, suc-le-suc}
use native.Mathlib.Nat.{not-suc-le-zero, le_of_suc-le-suc}
use native.Mathlib.Numerals.{add-one}
use native.Mathlib.Omega.{arith}
use borrow.Author.Tests.{eqb-true, eq-eqb}
use lib.Dec.{eqb}
use lib.ListN.{length, get_or}
use Rattle.lists.specs.Lists.{tab, below, all_l, any_l, those}
use Rattle.lists.proofs.Bools.{Is, is, yes-is, no-is, and-true, and-false, and_both, and_intro}
use Rattle.lists.proofs.Elements.{length-tab, get_or-tab0}
use Rattle.lists.proofs.Any.{any_at}

module _ {A : Type 0} (p : A → Bool) where
  pub those-yes : (x : A) (l : List A) → p x ≡ true → those p (x ∷ l) ≡ x ∷ those p l
  those-yes x l q = rw (q, those)

  pub those-no : (x : A) (l : List A) → p x ≡ false → those p (x ∷ l) ≡ those p l
  those-no x l q = rw (q, those)

  pub those-length : (l : List A) → length (those p l) ≤ length l
  those-length [] = zero-le
  those-length (x ∷ l) = go (is (p x)) (those-length l)
    where
      go : Is (p x) → length (those p l) ≤ length l → length (those p (x ∷ l)) ≤ length (x ∷ l)
      go (yes-is q) h = rw (those-yes x l q) (suc-le-suc h)
      go (no-is q) h = rw (those-no x l q) (omega arith)

  -- where none is left out
  pub those-all : (l : List A) → length l ≤ length (those p l) → those p l ≡ l
  those-all [] h = refl
  those-all (x ∷ l) h = go (is (p x)) (those-all l)
    where
      go : Is (p x) → (length l ≤ length (those p l) → those p l ≡ l) → those p (x ∷ l) ≡ x ∷ l
      go (yes-is q) f = those-yes x l q ∙ ap (◌∷◌ x) (f (le_of_suc-le-suc (rw (those-yes x l q) at h)))
      go (no-is q) f =
          let k = those-length l in
          let h' : length (x ∷ l) ≤ length (those p l) = rw (those-no x l q) at h in
          absurd (omega arith)

  pub those-append : (l m : List A) → those p (l ++ m) ≡ those p l ++ those p m
  those-append [] m = refl
  those-append (x ∷ l) m = go (is (p x)) (those-append l m)
    where
      go : Is (p x) → those p (l ++ m) ≡ those p l ++ those p m → those p (x ∷ (l ++ m)) ≡ those p (x ∷ l) ++ those p m
      go (yes-is q) e = rw (those-yes x (l ++ m) q, those-yes x l q) (ap (◌∷◌ x) e)
      go (no-is q) e = rw (those-no x (l ++ m) q, those-no x l q) e

  -- what every element passes, those pass
  pub those-keep : (r : A → Bool) (l : List A) → all_l r l ≡ true → all_l r (those p l) ≡ true
  those-keep r [] a = refl
  those-keep r (x ∷ l) a = go (is (p x)) (those-keep r l (and_both (r x) _ a).1)
    where
      go : Is (p x) → all_l r (those p l) ≡ true → all_l r (those p (x ∷ l)) ≡ true
      go (yes-is q) h = rw (those-yes x l q) (and_intro _ _ (and_both (r x) _ a).0 h)
      go (no-is q) h = rw (those-no x l q) h

  pub those-pass : (l : List A) → all_l p (those p l) ≡ true
  those-pass [] = refl
  those-pass (x ∷ l) = go (is (p x)) (those-pass l)
    where
      go : Is (p x) → all_l p (those p l) ≡ true → all_l p (those p (x ∷ l)) ≡ true
      go (yes-is q) h = rw (those-yes x l q) (and_intro _ _ q h)
      go (no-is q) h = rw (those-no x l q) h

  -- each of them was there
  pub those-from : (d : A) (l : List A) (i : ℕ) → i < length (those p l) → (k : ℕ) × (k < length l) × (get_or l k d ≡ get_or (those p l) i d)
  those-from d [] i h = absurd (not-suc-le-zero h)
  those-from d (x ∷ l) i h = go (is (p x)) (those-from d l) i h
    where
      up : (i : ℕ) → ((k : ℕ) × (k < length l) × (get_or l k d ≡ get_or (those p l) i d)) → (k : ℕ) × (k < length (x ∷ l)) × (get_or (x ∷ l) k d ≡ get_or (those p l) i d)
      up i f = let (k, b, e) = f in (suc k, suc-le-suc b, e)

      there : ((i : ℕ) → i < length (those p l) → (k : ℕ) × (k < length l) × (get_or l k d ≡ get_or (those p l) i d)) → (i : ℕ) → i < length (x ∷ those p l)
          → (k : ℕ) × (k < length (x ∷ l)) × (get_or (x ∷ l) k d ≡ get_or (x ∷ those p l) i d)
      there f zero h = (zero, suc-le-suc zero-le, refl)
      there f (suc i) h = up i (f i (le_of_suc-le-suc h))

      go : Is (p x) → ((i : ℕ) → i < length (those p l) → (k : ℕ) × (k < length l) × (get_or l k d ≡ get_or (those p l) i d)) → (i : ℕ)
          → i < length (those p (x ∷ l)) → (k : ℕ) × (k < length (x ∷ l)) × (get_or (x ∷ l) k d ≡ get_or (those p (x ∷ l)) i d)
      go (yes-is q) f i h = rw (those-yes x l q) (there f i (rw (those-yes x l q) at h))
      go (no-is q) f i h = rw (those-no x l q) (up i (f i (rw (those-no x l q) at h)))

pub those-map : {A B : Type 0} (p : B → Bool) (f : A → B) (l : List A) → those p (map f l) ≡ map f (those (λ x. p (f x)) l)
those-map p f [] = refl
those-map {A} {B} p f (x ∷ l) = go (is (p (f x))) (those-map p f l)
  where
    go : Is (p (f x)) → those p (map f l) ≡ map f (those (λ x. p (f x)) l) → those p (f x ∷ map f l) ≡ map f (those (λ x. p (f x)) (x ∷ l))
    go (yes-is e) h = rw (e, those) (ap {B = List B} (◌∷◌ (f x)) h)
    go (no-is e) h = rw (e, those) h

-- ---- the numbers below a bound

tab-last : {A : Type 0} (i n : ℕ) (f : ℕ → A) → tab i (suc n) f ≡ tab i n f ++ (f (i + n) ∷ [])
tab-last {A} i zero f = ap {B = List A} (λ (k : ℕ). f k ∷ []) (omega arith)
tab-last {A} i (suc n) f =
    ap {B = List A} (◌∷◌ (f i)) (tab-last (suc i) n f ∙ ap {B = List A} (λ (k : ℕ). tab (suc i) n f ++ (f k ∷ [])) (omega arith))

pub below_last : (n : ℕ) → below (n + 1) ≡ below n ++ (n ∷ [])
below_last n = rw add-one (tab-last 0 n (λ k. k) ∙ ap (λ (k : ℕ). below n ++ (k ∷ [])) (omega arith))

module _ (p : ℕ → Bool) (n : ℕ) where
  pub those-more : p n ≡ true → those p (below (n + 1)) ≡ those p (below n) ++ (n ∷ [])
  those-more e = ap (those p) (below_last n) ∙ those-append p (below n) (n ∷ []) ∙ ap (λ (l : List ℕ). those p (below n) ++ l) (rw (e, those))

  pub those-same : p n ≡ false → those p (below (n + 1)) ≡ those p (below n)
  those-same e =
      ap (those p) (below_last n) ∙ those-append p (below n) (n ∷ []) ∙ ap (λ (l : List ℕ). those p (below n) ++ l) (rw (e, those)) ∙ append-nil (those p (below n))

-- ---- which numbers are among them

module _ (p : ℕ → Bool) (u : ℕ) where
  any-kept : (l : List ℕ) → any_l (eqb u) (those p l) ≡ (p u && any_l (eqb u) l)
  any-kept [] = sym (and-false (p u))
  any-kept (x ∷ l) = go (is (p x)) (is (eqb u x)) (any-kept l)
    where
      go : Is (p x) → Is (eqb u x) → any_l (eqb u) (those p l) ≡ (p u && any_l (eqb u) l) → any_l (eqb u) (those p (x ∷ l)) ≡ (p u && (eqb u x || any_l (eqb u) l))
      go (yes-is q) (yes-is e) h = rw (q, e, those, ap p (eqb-true u x e) ∙ q)
      go (yes-is q) (no-is e) h = rw (q, e, those) h
      go (no-is q) (yes-is e) h = rw (q, e, those) (h ∙ rw (ap p (eqb-true u x e) ∙ q))
      go (no-is q) (no-is e) h = rw (q, e, those) h

  pub any-those : (n : ℕ) → u < n → any_l (eqb u) (those p (below n)) ≡ p u
  any-those n h =
      any-kept (below n)
      ∙ ap (λ (b : Bool). p u && b) (any_at (eqb u) 0 (below n) u (rw (length-tab 0 n (λ k. k)) h) (eq-eqb _ _ (sym (get_or-tab0 n (λ k. k) u 0 h))))
      ∙ and-true (p u)
