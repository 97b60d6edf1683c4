-- The distinct elements of a list, and the place of an element among them. Assumes nothing.
use Rattle.std.specs.Prelude.{Option, Some, None}
use mathlib.Core.Path.{◌≡◌, refl, sym, ap, subst, ◌∙◌}
use mathlib.Core.Bool.{Bool, true, false, not, cond, false≢true}
use mathlib.Core.List.{List, [], ◌∷◌, ◌++◌, append-nil, append_assoc}
use mathlib.Core.Logic.{◌⊎◌, inl, inr, ⊎_elim}
use Prim.Native.Nat.{ℕ, zero, suc, ◌≤◌, ◌<◌, zero-le, suc-le-suc}
use native.Mathlib.Nat.{not-suc-le-zero, le_of_suc-le-suc}
use native.Mathlib.Omega.{arith}
use borrow.Author.Tests.{not-true}
use lib.ListN.{length, get_or}
use Rattle.lists.specs.Lists.{all_l, any_l, those, distinct, place}
use Rattle.lists.proofs.Bools.{Is, is, yes-is, no-is, none-some, some_inj, or_cases, or_left, or_right}
use Rattle.lists.proofs.Elements.{Sound, same-sym, all-at}
use Rattle.lists.proofs.Those.{those-yes, those-no, those-length, those-all, those-append, those-keep, those-pass, those-from}

module _ {A : Type 0} (same : A → A → Bool) (sound : Sound same) where
  -- ---- the place of an element

  place_here : (x y : A) (l : List A) → same x y ≡ true → place same x (y ∷ l) ≡ Some 0
  place_here x y l q = rw (q, place)

  place-later : (x y : A) (l : List A) → same x y ≡ false → (j : ℕ) → place same x l ≡ Some j → place same x (y ∷ l) ≡ Some (suc j)
  place-later x y l n j e = rw (n, place) (rw (e, place))

  place-never : (x y : A) (l : List A) → same x y ≡ false → place same x l ≡ None → place same x (y ∷ l) ≡ None
  place-never x y l n e = rw (n, place) (rw (e, place))

  pub place-some : (x : A) (l : List A) → any_l (same x) l ≡ true → (j : ℕ) × (place same x l ≡ Some j)
  place-some x [] h = absurd (false≢true h)
  place-some x (y ∷ l) h = go (is (same x y)) (place-some x l)
    where
      go : Is (same x y) → (any_l (same x) l ≡ true → (j : ℕ) × (place same x l ≡ Some j)) → (j : ℕ) × (place same x (y ∷ l) ≡ Some j)
      go (yes-is q) f = (0, place_here x y l q)
      go (no-is q) f = let (j, e) = f (rw q at h) in (suc j, place-later x y l q j e)

  pub place_at : (d x : A) (l : List A) (j : ℕ) → place same x l ≡ Some j → (j < length l) × (get_or l j d ≡ x)
  place_at d x [] j e = absurd (none-some e)
  place_at d x (y ∷ l) j e = go (is (same x y)) (place same x l) refl (place_at d x l)
    where
      go : Is (same x y) → (o : Option ℕ) → place same x l ≡ o → ((i : ℕ) → place same x l ≡ Some i → (i < length l) × (get_or l i d ≡ x))
          → (j < length (y ∷ l)) × (get_or (y ∷ l) j d ≡ x)
      go (yes-is q) o r f =
          subst (λ (i : ℕ). (i < length (y ∷ l)) × (get_or (y ∷ l) i d ≡ x)) (some_inj (sym (place_here x y l q) ∙ e))
          (suc-le-suc zero-le, sym (sound.eq x y q))
      go (no-is q) None r f = absurd (none-some (sym (place-never x y l q r) ∙ e))
      go (no-is q) (Some i) r f =
          let (b, v) = f i r in
          subst (λ (i : ℕ). (i < length (y ∷ l)) × (get_or (y ∷ l) i d ≡ x)) (some_inj (sym (place-later x y l q i r) ∙ e)) (suc-le-suc b, v)

  -- the place stays where the list goes on; a new element's place is the length
  pub place-append : (x : A) (l m : List A) (j : ℕ) → place same x l ≡ Some j → place same x (l ++ m) ≡ Some j
  place-append x [] m j e = absurd (none-some e)
  place-append x (y ∷ l) m j e = go (is (same x y)) (place same x l) refl (place-append x l m)
    where
      go : Is (same x y) → (o : Option ℕ) → place same x l ≡ o → ((i : ℕ) → place same x l ≡ Some i → place same x (l ++ m) ≡ Some i)
          → place same x (y ∷ (l ++ m)) ≡ Some j
      go (yes-is q) o r f = place_here x y (l ++ m) q ∙ sym (place_here x y l q) ∙ e
      go (no-is q) None r f = absurd (none-some (sym (place-never x y l q r) ∙ e))
      go (no-is q) (Some i) r f = place-later x y (l ++ m) q i (f i r) ∙ sym (place-later x y l q i r) ∙ e

  pub place-new : (x : A) (l : List A) → any_l (same x) l ≡ false → place same x (l ++ x ∷ []) ≡ Some (length l)
  place-new x [] h = place_here x x [] (sound.self x)
  place-new x (y ∷ l) h = go (is (same x y)) (place-new x l)
    where
      go : Is (same x y) → (any_l (same x) l ≡ false → place same x (l ++ x ∷ []) ≡ Some (length l)) → place same x (y ∷ (l ++ x ∷ [])) ≡ Some (suc (length l))
      go (yes-is q) f = absurd (false≢true (sym h ∙ or_left _ _ q))
      go (no-is q) f = place-later x y (l ++ x ∷ []) q (length l) (f (rw q at h))

  -- ---- lists whose elements all differ

  pub data Apart : List A → Type 0 where
    apart-nil : Apart []
    apart_cons : {x : A} {l : List A} → all_l (λ y. not (same x y)) l ≡ true → Apart l → Apart (x ∷ l)

  pub place-apart : (d : A) (l : List A) → Apart l → (i : ℕ) → i < length l → place same (get_or l i d) l ≡ Some i
  place-apart d [] a i h = absurd (not-suc-le-zero h)
  place-apart d (x ∷ l) (apart_cons f a) zero h = place_here x x l (sound.self x)
  place-apart d (x ∷ l) (apart_cons f a) (suc i) h =
      place-later (get_or l i d) x l
      (same-sym same sound x (get_or l i d) (not-true _ (all-at (λ y. not (same x y)) l i d f (le_of_suc-le-suc h))))
      i (place-apart d l a i (le_of_suc-le-suc h))

  pub apart-differ : (d : A) (l : List A) → Apart l → (i j : ℕ) → i < j → j < length l → get_or l i d ≡ get_or l j d → ⊥
  apart-differ d l a i j h k e =
      let p : Some i ≡ Some j = sym (place-apart d l a i (omega arith)) ∙ ap (λ (x : A). place same x l) e ∙ place-apart d l a j k in
      let q : i ≡ j = some_inj p in
      omega arith

  -- ---- those that pass a test

  module _ (p : A → Bool) where
    those-apart : (l : List A) → Apart l → Apart (those p l)
    those-apart [] a = apart-nil
    those-apart (x ∷ l) (apart_cons f a) = go (is (p x)) (those-apart l a)
      where
        go : Is (p x) → Apart (those p l) → Apart (those p (x ∷ l))
        go (yes-is q) h = rw (those-yes p x l q) (apart_cons (those-keep p (λ y. not (same x y)) l f) h)
        go (no-is q) h = rw (those-no p x l q) h

    -- an element that passes is still there
    those-any : (x : A) → p x ≡ true → (l : List A) → any_l (same x) l ≡ true → any_l (same x) (those p l) ≡ true
    those-any x px [] h = h
    those-any x px (y ∷ l) h = go (is (p y)) (or_cases (same x y) _ h) (those-any x px l)
      where
        go : Is (p y) → ((same x y ≡ true) ⊎ (any_l (same x) l ≡ true)) → (any_l (same x) l ≡ true → any_l (same x) (those p l) ≡ true)
            → any_l (same x) (those p (y ∷ l)) ≡ true
        go (yes-is q) (inl s) f = rw (those-yes p y l q) (or_left _ _ s)
        go (yes-is q) (inr r) f = rw (those-yes p y l q) (or_right (same x y) _ (f r))
        go (no-is q) (inl s) f = absurd (false≢true (sym q ∙ ap p (sym (sound.eq x y s)) ∙ px))
        go (no-is q) (inr r) f = rw (those-no p y l q) (f r)

  -- ---- the distinct elements

  pub distinct_apart : (l : List A) → Apart (distinct same l)
  distinct_apart [] = apart-nil
  distinct_apart (x ∷ l) = apart_cons (those-pass (λ y. not (same x y)) (distinct same l)) (those-apart (λ y. not (same x y)) (distinct same l) (distinct_apart l))

  pub distinct-length : (l : List A) → length (distinct same l) ≤ length l
  distinct-length [] = zero-le
  distinct-length (x ∷ l) =
      let a = distinct-length l in let b = those-length (λ y. not (same x y)) (distinct same l) in omega arith

  -- where none is left out
  pub distinct-all : (l : List A) → length l ≤ length (distinct same l) → distinct same l ≡ l
  distinct-all [] h = refl
  distinct-all (x ∷ l) h =
      let p : A → Bool = λ y. not (same x y) in
      let a : length (distinct same l) ≤ length l = distinct-length l in
      let b : length (those p (distinct same l)) ≤ length (distinct same l) = those-length p (distinct same l) in
      let c : those p (distinct same l) ≡ distinct same l = those-all p (distinct same l) (omega arith) in
      ap (◌∷◌ x) (c ∙ distinct-all l (omega arith))

  -- one more element at the end: it is left out if it equals one before
  pub distinct_snoc : (l : List A) (x : A) → distinct same (l ++ x ∷ []) ≡ cond (any_l (same x) l) (distinct same l) (distinct same l ++ x ∷ [])
  distinct_snoc [] x = refl
  distinct_snoc (y ∷ l) x = go (is (same x y)) (is (any_l (same x) l)) (distinct_snoc l x)
    where
      p : A → Bool
      p z = not (same y z)

      go : Is (same x y) → Is (any_l (same x) l) → distinct same (l ++ x ∷ []) ≡ cond (any_l (same x) l) (distinct same l) (distinct same l ++ x ∷ [])
          → distinct same (y ∷ (l ++ x ∷ [])) ≡ cond (any_l (same x) (y ∷ l)) (distinct same (y ∷ l)) (distinct same (y ∷ l) ++ x ∷ [])
      go (yes-is q) (yes-is r) e = rw (q, e, r)
      go (yes-is q) (no-is r) e =
          let no : p x ≡ false = ap not (ap (λ (z : A). same z x) (sym (sound.eq x y q)) ∙ sound.self x) in
          rw (q, e, r) (ap (◌∷◌ y) (those-append p (distinct same l) (x ∷ []) ∙ ap (λ (m : List A). those p (distinct same l) ++ m) (those-no p x [] no) ∙ append-nil _))
      go (no-is q) (yes-is r) e = rw (q, e, r)
      go (no-is q) (no-is r) e =
          let yes : p x ≡ true = ap not (same-sym same sound x y q) in
          rw (q, e, r) (ap (◌∷◌ y) (those-append p (distinct same l) (x ∷ []) ∙ ap (λ (m : List A). those p (distinct same l) ++ m) (those-yes p x [] yes)))

  -- every element is among them
  pub distinct-has : (d : A) (l : List A) (i : ℕ) → i < length l → any_l (same (get_or l i d)) (distinct same l) ≡ true
  distinct-has d [] i h = absurd (not-suc-le-zero h)
  distinct-has d (x ∷ l) zero h = or_left _ _ (sound.self x)
  distinct-has d (x ∷ l) (suc i) h = go (is (same x (get_or l i d))) (distinct-has d l i (le_of_suc-le-suc h))
    where
      go : Is (same x (get_or l i d)) → any_l (same (get_or l i d)) (distinct same l) ≡ true → any_l (same (get_or l i d)) (distinct same (x ∷ l)) ≡ true
      go (yes-is q) f = or_left _ _ (ap (λ (y : A). same y x) (sym (sound.eq _ _ q)) ∙ sound.self x)
      go (no-is q) f = or_right (same (get_or l i d) x) _ (those-any (λ y. not (same x y)) (get_or l i d) (ap not q) (distinct same l) f)

  -- and each of them is an element
  pub distinct_from : (d : A) (l : List A) (i : ℕ) → i < length (distinct same l) → (k : ℕ) × (k < length l) × (get_or l k d ≡ get_or (distinct same l) i d)
  distinct_from d [] i h = absurd (not-suc-le-zero h)
  distinct_from d (x ∷ l) zero h = (zero, suc-le-suc zero-le, refl)
  distinct_from d (x ∷ l) (suc i) h =
      let (j, b, e) = those-from (λ y. not (same x y)) d (distinct same l) i (le_of_suc-le-suc h) in
      let (k, c, q) = distinct_from d l j b in
      (suc k, suc-le-suc c, q ∙ e)

  -- ---- from the front, as a loop finds them: the state i is new, or equals an earlier one

  any-those : (p q : A → Bool) (l : List A) → any_l q (those p l) ≡ true → any_l q l ≡ true
  any-those p q [] h = h
  any-those p q (x ∷ l) h = go (is (p x)) (any-those p q l)
    where
      go : Is (p x) → (any_l q (those p l) ≡ true → any_l q l ≡ true) → any_l q (x ∷ l) ≡ true
      go (yes-is e) f = ⊎_elim (λ a. or_left _ _ a) (λ b. or_right (q x) _ (f b)) (or_cases (q x) _ (rw (those-yes p x l e) at h))
      go (no-is e) f = or_right (q x) _ (f (rw (those-no p x l e) at h))

  any-distinct : (q : A → Bool) (l : List A) → any_l q (distinct same l) ≡ true → any_l q l ≡ true
  any-distinct q [] h = h
  any-distinct q (x ∷ l) h =
      ⊎_elim (λ a. or_left _ _ a) (λ b. or_right (q x) _ (any-distinct q l (any-those (λ y. not (same x y)) q (distinct same l) b))) (or_cases (q x) _ h)

  -- a place that is found stays where the list goes on
  pub distinct-prefix : (b a : List A) (x : A) (j : ℕ) → place same x (distinct same a) ≡ Some j → place same x (distinct same (a ++ b)) ≡ Some j
  distinct-prefix [] a x j e = ap (λ (m : List A). place same x (distinct same m)) (append-nil a) ∙ e
  distinct-prefix (y ∷ b) a x j e =
      ap (λ (m : List A). place same x (distinct same m)) (sym (append_assoc a (y ∷ []) b))
      ∙ distinct-prefix b (a ++ y ∷ []) x j (ap (place same x) (distinct_snoc a y) ∙ one (any_l (same y) a))
    where
      one : (t : Bool) → place same x (cond t (distinct same a) (distinct same a ++ y ∷ [])) ≡ Some j
      one true = e
      one false = place-append x (distinct same a) (y ∷ []) j e

  -- an element that equals none before it has as its place the number of distinct ones before it
  pub distinct-new : (a b : List A) (x : A) → any_l (same x) a ≡ false → place same x (distinct same (a ++ x ∷ b)) ≡ Some (length (distinct same a))
  distinct-new a b x n =
      ap (λ (m : List A). place same x (distinct same m)) (sym (append_assoc a (x ∷ []) b))
      ∙ distinct-prefix b (a ++ x ∷ []) x (length (distinct same a))
      (ap (place same x) (distinct_snoc a x ∙ ap (λ (t : Bool). cond t (distinct same a) (distinct same a ++ x ∷ [])) n) ∙ place-new x (distinct same a) (none-too (is (any_l (same x) (distinct same a)))))
    where
      none-too : Is (any_l (same x) (distinct same a)) → any_l (same x) (distinct same a) ≡ false
      none-too (no-is e) = e
      none-too (yes-is e) = absurd (false≢true (sym n ∙ any-distinct (same x) a e))
