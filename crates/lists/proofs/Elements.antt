-- A test of every element of a list, an element of a list made of a function, a test of equality, a list filled from the front. Assumes nothing.
use Rattle.std.specs.Prelude.{Option, Some, None}
use mathlib.Core.Path.{◌≡◌, refl, sym, ap, ◌∙◌}
use mathlib.Core.Bool.{Bool, true, false, ◌&&◌, false≢true}
use mathlib.Core.List.{List, [], ◌∷◌, ◌++◌, map}
use Prim.Native.Nat.{ℕ, zero, suc, ◌+◌, ◌<◌, zero-le, suc-le-suc}
use native.Mathlib.Nat.{not-suc-le-zero, le_of_suc-le-suc, add-zero}
use native.Mathlib.Omega.{arith}
use borrow.Author.Tests.{eq-eqb, eqb-true}
use lib.Dec.{eqb}
use lib.ListN.{length, get_or}
use Rattle.lists.specs.Lists.{tab, all_l, eq_list, eq_option}
use Rattle.lists.proofs.Bools.{Is, is, yes-is, no-is, and_both, and_intro, and-right-false}

-- a list with an element is not empty
pub nil-cons : {A : Type 0} {x : A} {l : List A} → ◌≡◌ {A = List A} (x ∷ l) [] → ⊥
nil-cons e = let z : ◌≡◌ {A = ℕ} 0 1 = cc in omega arith

pub length-nil : {A : Type 0} (l : List A) → length l ≡ 0 → l ≡ []
length-nil [] e = refl
length-nil (x ∷ l) e = absurd (omega arith)

-- ---- lists made of a function

module _ {A : Type 0} where
  pub length-tab : (i n : ℕ) (f : ℕ → A) → length (tab i n f) ≡ n
  length-tab i zero f = refl
  length-tab i (suc n) f = ap suc (length-tab (suc i) n f)

  pub get_or-tab : (i n : ℕ) (f : ℕ → A) (j : ℕ) (d : A) → j < n → get_or (tab i n f) j d ≡ f (i + j)
  get_or-tab i zero f j d h = absurd (not-suc-le-zero h)
  get_or-tab i (suc n) f zero d h = ap f (sym (add-zero i))
  get_or-tab i (suc n) f (suc j) d h = get_or-tab (suc i) n f j d (le_of_suc-le-suc h) ∙ ap f (omega arith)

pub get_or-tab0 : {A : Type 0} (n : ℕ) (f : ℕ → A) (j : ℕ) (d : A) → j < n → get_or (tab 0 n f) j d ≡ f j
get_or-tab0 n f j d h = get_or-tab 0 n f j d h ∙ ap f (omega arith)

pub map_at : {A B : Type 0} (f : A → B) (l : List A) (i : ℕ) (d : A) (e : B) → i < length l → get_or (map f l) i e ≡ f (get_or l i d)
map_at f [] i d e h = absurd (not-suc-le-zero h)
map_at f (x ∷ l) zero d e h = refl
map_at f (x ∷ l) (suc i) d e h = map_at f l i d e (le_of_suc-le-suc h)

-- ---- every element passes a test

module _ {A : Type 0} where
  pub all-at : (p : A → Bool) (l : List A) (i : ℕ) (d : A) → all_l p l ≡ true → i < length l → p (get_or l i d) ≡ true
  all-at p [] i d a h = absurd (not-suc-le-zero h)
  all-at p (x ∷ l) zero d a h = (and_both _ _ a).0
  all-at p (x ∷ l) (suc i) d a h = all-at p l i d (and_both (p x) _ a).1 (le_of_suc-le-suc h)

  pub all-intro : (p : A → Bool) (l : List A) (d : A) → ((i : ℕ) → i < length l → p (get_or l i d) ≡ true) → all_l p l ≡ true
  all-intro p [] d f = refl
  all-intro p (x ∷ l) d f = and_intro (p x) _ (f zero (suc-le-suc zero-le)) (all-intro p l d (λ i h. f (suc i) (suc-le-suc h)))

  pub all-false : (p : A → Bool) (l : List A) (i : ℕ) (d : A) → i < length l → p (get_or l i d) ≡ false → all_l p l ≡ false
  all-false p [] i d h e = absurd (not-suc-le-zero h)
  all-false p (x ∷ l) zero d h e = ap (λ (b : Bool). b && all_l p l) e
  all-false p (x ∷ l) (suc i) d h e = and-right-false (p x) (all_l p l) (all-false p l i d (le_of_suc-le-suc h) e)

  pub all_join : (p : A → Bool) (a b : List A) → all_l p a ≡ true → all_l p b ≡ true → all_l p (a ++ b) ≡ true
  all_join p [] b h k = k
  all_join p (x ∷ a) b h k = let q = and_both (p x) (all_l p a) h in and_intro (p x) (all_l p (a ++ b)) q.0 (all_join p a b q.1 k)

-- ---- a test of equality

pub record Sound {A : Type 0} (same : A → A → Bool) : Type 0 where
  pub eq : (a b : A) → same a b ≡ true → a ≡ b
  pub self : (a : A) → same a a ≡ true

pub eqb-sound : Sound eqb
eqb-sound = record { eq = eqb-true; self = λ a. eq-eqb a a refl }

pub option-sound : Sound eq_option
option-sound = record { eq = eq'; self = self' }
  where
    eq' : (a b : Option ℕ) → eq_option a b ≡ true → a ≡ b
    eq' None None e = refl
    eq' None (Some b) e = absurd (false≢true e)
    eq' (Some a) None e = absurd (false≢true e)
    eq' (Some a) (Some b) e = ap {B = Option ℕ} Some (eqb-true a b e)

    self' : (a : Option ℕ) → eq_option a a ≡ true
    self' None = refl
    self' (Some a) = eq-eqb a a refl

module _ {A : Type 0} (same : A → A → Bool) (sound : Sound same) where
  list-eq : (a b : List A) → eq_list same a b ≡ true → a ≡ b
  list-eq [] [] e = refl
  list-eq [] (y ∷ b) e = absurd (false≢true e)
  list-eq (x ∷ a) [] e = absurd (false≢true e)
  list-eq (x ∷ a) (y ∷ b) e = go (is (same x y)) (list-eq a b)
    where
      go : Is (same x y) → (eq_list same a b ≡ true → a ≡ b) → x ∷ a ≡ y ∷ b
      go (yes-is q) f = let z : x ≡ y = sound.eq x y q in let z' : a ≡ b = f (rw (q, eq_list) at e) in cc
      go (no-is q) f = absurd (false≢true (rw (q, eq_list) at e))

  list-self : (a : List A) → eq_list same a a ≡ true
  list-self [] = refl
  list-self (x ∷ a) = rw (sound.self x, eq_list) (list-self a)

  pub list-sound : Sound (eq_list same)
  list-sound = record { eq = list-eq; self = list-self }

  pub same-sym : (x y : A) → same x y ≡ false → same y x ≡ false
  same-sym x y n = go (is (same y x))
    where
      go : Is (same y x) → same y x ≡ false
      go (no-is q) = q
      go (yes-is q) = absurd (false≢true (sym n ∙ ap (same x) (sound.eq y x q) ∙ sound.self x))
