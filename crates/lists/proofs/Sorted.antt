-- Lists ordered by their first difference, a shorter prefix first: `before` is a total order, and `sorted` gives a list in that order with just the
-- elements that it was given, each as often. By induction. Assumes nothing.
use mathlib.Core.Path.{◌≡◌, refl, sym, ap, ◌∙◌}
use mathlib.Core.Bool.{Bool, true, false, false≢true}
use mathlib.Core.List.{List, [], ◌∷◌}
use Prim.Native.Nat.{ℕ, zero, suc, ◌+◌, ◌≤◌, ◌<◌}
use native.Mathlib.Nat.{not-suc-le-zero, le_of_suc-le-suc}
use native.Mathlib.Omega.{arith}
use borrow.Author.Tests.{lt-ltb, le-ltb, eq-eqb, ne_eqb}
use lib.ListN.{length, get_or}
use Rattle.lists.specs.Lists.{all_l, those, before, insert, sorted}
use Rattle.lists.proofs.Bools.{Is, is, yes-is, no-is, and_both, and_intro, Order, order, less, equal, more}
use Rattle.lists.proofs.Elements.{all-at}

-- ---- the order

module _ (x y : ℕ) (a b : List ℕ) where
  pub before-less : x < y → before (x ∷ a) (y ∷ b) ≡ true
  before-less h = rw (lt-ltb x y h)

  pub before-equal : x ≡ y → before (x ∷ a) (y ∷ b) ≡ before a b
  before-equal e = rw (le-ltb x y (omega arith), eq-eqb x y e)

  pub before_more : y < x → before (x ∷ a) (y ∷ b) ≡ false
  before_more h = let n : x ≡ y → ⊥ = λ e. omega arith in rw (le-ltb x y (omega arith), ne_eqb x y n)

pub before-refl : (a : List ℕ) → before a a ≡ true
before-refl [] = refl
before-refl (x ∷ a) = before-equal x x a a refl ∙ before-refl a

-- of two lists one is before the other
pub before-total : (a b : List ℕ) → before a b ≡ false → before b a ≡ true
before-total [] b e = absurd (false≢true (sym e))
before-total (x ∷ a) [] e = refl
before-total (x ∷ a) (y ∷ b) e = go (order x y) (before-total a b)
  where
    go : Order x y → (before a b ≡ false → before b a ≡ true) → before (y ∷ b) (x ∷ a) ≡ true
    go (less h) f = absurd (false≢true (sym e ∙ before-less x y a b h))
    go (equal q) f = before-equal y x b a (sym q) ∙ f (sym (before-equal x y a b q) ∙ e)
    go (more h) f = before-less y x b a h

pub before-trans : (a b c : List ℕ) → before a b ≡ true → before b c ≡ true → before a c ≡ true
before-trans [] b c p q = refl
before-trans (x ∷ a) [] c p q = absurd (false≢true p)
before-trans (x ∷ a) (y ∷ b) [] p q = absurd (false≢true q)
before-trans (x ∷ a) (y ∷ b) (z ∷ c) p q = go (order x y) (order y z) (before-trans a b c)
  where
    go : Order x y → Order y z → (before a b ≡ true → before b c ≡ true → before a c ≡ true) → before (x ∷ a) (z ∷ c) ≡ true
    go (more h) o f = absurd (false≢true (sym (before_more x y a b h) ∙ p))
    go (less h) (more k) f = absurd (false≢true (sym (before_more y z b c k) ∙ q))
    go (less h) (less k) f = before-less x z a c (omega arith)
    go (less h) (equal k) f = before-less x z a c (omega arith)
    go (equal h) (more k) f = absurd (false≢true (sym (before_more y z b c k) ∙ q))
    go (equal h) (less k) f = before-less x z a c (omega arith)
    go (equal h) (equal k) f =
        before-equal x z a c (h ∙ k) ∙ f (sym (before-equal x y a b h) ∙ p) (sym (before-equal y z b c k) ∙ q)

-- what is not before a later one is not before an earlier one
pub before-not : (a b c : List ℕ) → before b c ≡ true → before a c ≡ false → before a b ≡ false
before-not a b c q n = go (is (before a b))
  where
    go : Is (before a b) → before a b ≡ false
    go (no-is p) = p
    go (yes-is p) = absurd (false≢true (sym n ∙ before-trans a b c p q))

-- two lists that are each before the other are one
pub before-antisym : (a b : List ℕ) → before a b ≡ true → before b a ≡ true → a ≡ b
before-antisym [] [] p q = refl
before-antisym [] (y ∷ b) p q = absurd (false≢true q)
before-antisym (x ∷ a) [] p q = absurd (false≢true p)
before-antisym (x ∷ a) (y ∷ b) p q = go (order x y) (before-antisym a b)
  where
    go : Order x y → (before a b ≡ true → before b a ≡ true → a ≡ b) → x ∷ a ≡ y ∷ b
    go (less h) f = absurd (false≢true (sym (before_more y x b a h) ∙ q))
    go (more h) f = absurd (false≢true (sym (before_more x y a b h) ∙ p))
    go (equal h) f =
        let e : a ≡ b = f (sym (before-equal x y a b h) ∙ p) (sym (before-equal y x b a (sym h)) ∙ q) in
        cc

-- ---- `sorted` is in order

pub data Ordered : List (List ℕ) → Type 0 where
  ordered-nil : Ordered []
  ordered-cons : {a : List ℕ} {l : List (List ℕ)} → all_l (before a) l ≡ true → Ordered l → Ordered (a ∷ l)

insert-here : (a b : List ℕ) (l : List (List ℕ)) → before a b ≡ true → insert a (b ∷ l) ≡ a ∷ (b ∷ l)
insert-here a b l q = rw (q, insert)

insert-on : (a b : List ℕ) (l : List (List ℕ)) → before a b ≡ false → insert a (b ∷ l) ≡ b ∷ insert a l
insert-on a b l q = rw (q, insert)

insert_all : (p : List ℕ → Bool) (a : List ℕ) (l : List (List ℕ)) → p a ≡ true → all_l p l ≡ true → all_l p (insert a l) ≡ true
insert_all p a [] h k = and_intro _ _ h k
insert_all p a (b ∷ l) h k = go (is (before a b)) (insert_all p a l h (and_both (p b) _ k).1)
  where
    go : Is (before a b) → all_l p (insert a l) ≡ true → all_l p (insert a (b ∷ l)) ≡ true
    go (yes-is q) r = rw (insert-here a b l q) (and_intro _ _ h k)
    go (no-is q) r = rw (insert-on a b l q) (and_intro _ _ (and_both (p b) _ k).0 r)

pub insert-ordered : (a : List ℕ) (l : List (List ℕ)) → Ordered l → Ordered (insert a l)
insert-ordered a [] o = ordered-cons refl ordered-nil
insert-ordered a (b ∷ l) (ordered-cons h o) = go (is (before a b)) (insert-ordered a l o)
  where
    beyond : before a b ≡ true → (l : List (List ℕ)) → all_l (before b) l ≡ true → all_l (before a) l ≡ true
    beyond q [] k = refl
    beyond q (c ∷ l) k =
        and_intro _ _ (before-trans a b c q (and_both (before b c) _ k).0) (beyond q l (and_both (before b c) _ k).1)

    go : Is (before a b) → Ordered (insert a l) → Ordered (insert a (b ∷ l))
    go (yes-is q) r = rw (insert-here a b l q) (ordered-cons (and_intro _ _ q (beyond q l h)) (ordered-cons h o))
    go (no-is q) r = rw (insert-on a b l q) (ordered-cons (insert_all (before b) a l (before-total a b q) h) r)

pub sorted-ordered : (l : List (List ℕ)) → Ordered (sorted l)
sorted-ordered [] = ordered-nil
sorted-ordered (a ∷ l) = insert-ordered a (sorted l) (sorted-ordered l)

-- of two elements the earlier is before the later
pub ordered_at : (l : List (List ℕ)) → Ordered l → (i j : ℕ) → i ≤ j → j < length l → before (get_or l i []) (get_or l j []) ≡ true
ordered_at [] o i j h b = absurd (not-suc-le-zero b)
ordered_at (a ∷ l) (ordered-cons f o) zero zero h b = before-refl a
ordered_at (a ∷ l) (ordered-cons f o) zero (suc j) h b = all-at (before a) l j [] f (le_of_suc-le-suc b)
ordered_at (a ∷ l) (ordered-cons f o) (suc i) zero h b = absurd (omega arith)
ordered_at (a ∷ l) (ordered-cons f o) (suc i) (suc j) h b = ordered_at l o i j (le_of_suc-le-suc h) (le_of_suc-le-suc b)

-- ---- and has each element as often as it was given: as many pass any test

insert-count : (p : List ℕ → Bool) (a : List ℕ) (l : List (List ℕ)) → length (those p (insert a l)) ≡ length (those p (a ∷ l))
insert-count p a [] = refl
insert-count p a (b ∷ l) = go (is (before a b)) (is (p a)) (is (p b)) (insert-count p a l)
  where
    go : Is (before a b) → Is (p a) → Is (p b) → length (those p (insert a l)) ≡ length (those p (a ∷ l))
        → length (those p (insert a (b ∷ l))) ≡ length (those p (a ∷ (b ∷ l)))
    go (yes-is q) u v e = ap (λ (m : List (List ℕ)). length (those p m)) (insert-here a b l q)
    go (no-is q) (yes-is u) (yes-is v) e = rw (insert-on a b l q) (rw (u, v, those) (ap suc (e ∙ rw (u, those))))
    go (no-is q) (yes-is u) (no-is v) e = rw (insert-on a b l q) (rw (u, v, those) (e ∙ rw (u, those)))
    go (no-is q) (no-is u) (yes-is v) e = rw (insert-on a b l q) (rw (u, v, those) (ap suc (e ∙ rw (u, those))))
    go (no-is q) (no-is u) (no-is v) e = rw (insert-on a b l q) (rw (u, v, those) (e ∙ rw (u, those)))

pub sorted-count : (p : List ℕ → Bool) (l : List (List ℕ)) → length (those p (sorted l)) ≡ length (those p l)
sorted-count p [] = refl
sorted-count p (a ∷ l) = insert-count p a (sorted l) ∙ go (is (p a)) (sorted-count p l)
  where
    go : Is (p a) → length (those p (sorted l)) ≡ length (those p l) → length (those p (a ∷ sorted l)) ≡ length (those p (a ∷ l))
    go (yes-is u) e = rw (u, those) (ap suc e)
    go (no-is u) e = rw (u, those) e

-- ---- and a sum over its elements is the sum over what it was given

abbrev pub total : (List ℕ → ℕ) → List (List ℕ) → ℕ
total f [] = 0
total f (a ∷ l) = f a + total f l

insert-total : (f : List ℕ → ℕ) (a : List ℕ) (l : List (List ℕ)) → total f (insert a l) ≡ f a + total f l
insert-total f a [] = refl
insert-total f a (b ∷ l) = go (is (before a b)) (insert-total f a l)
  where
    go : Is (before a b) → total f (insert a l) ≡ f a + total f l → total f (insert a (b ∷ l)) ≡ f a + (f b + total f l)
    go (yes-is q) e = ap (total f) (insert-here a b l q)
    go (no-is q) e = ap (total f) (insert-on a b l q) ∙ omega arith

pub sorted-total : (f : List ℕ → ℕ) (l : List (List ℕ)) → total f (sorted l) ≡ total f l
sorted-total f [] = refl
sorted-total f (a ∷ l) = let e = sorted-total f l in insert-total f a (sorted l) ∙ omega arith

insert-length : (a : List ℕ) (l : List (List ℕ)) → length (insert a l) ≡ suc (length l)
insert-length a [] = refl
insert-length a (b ∷ l) = go (is (before a b)) (insert-length a l)
  where
    go : Is (before a b) → length (insert a l) ≡ suc (length l) → length (insert a (b ∷ l)) ≡ suc (suc (length l))
    go (yes-is q) e = ap length (insert-here a b l q)
    go (no-is q) e = ap length (insert-on a b l q) ∙ ap suc e

pub sorted-length : (l : List (List ℕ)) → length (sorted l) ≡ length l
sorted-length [] = refl
sorted-length (a ∷ l) = insert-length a (sorted l) ∙ ap suc (sorted-length l)
