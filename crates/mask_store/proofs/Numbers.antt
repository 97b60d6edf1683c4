-- Numbers of classes in a list, and lists that grow by the classes met. Assumes nothing.
use mathlib.Core.Path.{◌≡◌, refl, sym, ap, subst, ◌∙◌}
use mathlib.Core.Bool.{Bool, true, false, cond, not, beq, false≢true}
use mathlib.Core.List.{List, [], ◌∷◌, ◌++◌, append-nil, append_assoc}
use Prim.Native.Nat.{ℕ, zero, suc, ◌+◌, ◌≤◌, ◌<◌, zero-le, suc-le-suc}
use native.Mathlib.Nat.{not-suc-le-zero, le_of_suc-le-suc}
use native.Mathlib.Omega.{arith}
use borrow.Author.Tests.{ltb-true, ltb-false, lt-ltb, le-ltb, not-true}
use lib.ListN.{length, get_or, length-append}
use Rattle.lists.specs.Lists.{all_l}
use Rattle.lists.proofs.Elements.{Sound, list-sound, same-sym}
use Rattle.lists.proofs.Bools.{and_both, and_intro, Is, yes-is, no-is, is}
use Rattle.classes.specs.Classes.{Class}
use Rattle.mask_store.specs.Masks.{same_class, number_of, among, none_twice, met}

-- ---- the test of equality

pub beq-sound : Sound beq
beq-sound = record { eq = eq'; self = self' }
  where
    eq' : (x y : Bool) → beq x y ≡ true → x ≡ y
    eq' true true e = refl
    eq' true false e = absurd (false≢true e)
    eq' false true e = absurd (false≢true e)
    eq' false false e = refl

    self' : (x : Bool) → beq x x ≡ true
    self' true = refl
    self' false = refl

pub class-sound : Sound same_class
class-sound = list-sound beq beq-sound

pub same-eq : (c d : Class) → same_class c d ≡ true → c ≡ d
same-eq = class-sound.eq

pub same_self : (c : Class) → same_class c c ≡ true
same_self = class-sound.self

-- ---- numbers

pub number-here : (c d : Class) (l : List Class) → same_class c d ≡ true → number_of (d ∷ l) c ≡ 0
number-here c d l q = rw (q, number_of)

pub number-later : (c d : Class) (l : List Class) → same_class c d ≡ false → number_of (d ∷ l) c ≡ suc (number_of l c)
number-later c d l q = rw (q, number_of)

-- the class of that number, if the list has it
pub number_at : (l : List Class) (c : Class) → number_of l c < length l → get_or l (number_of l c) [] ≡ c
number_at [] c h = absurd (not-suc-le-zero h)
number_at (d ∷ l) c h = go (is (same_class c d)) (number_at l c)
  where
    go : Is (same_class c d) → (number_of l c < length l → get_or l (number_of l c) [] ≡ c) → get_or (d ∷ l) (number_of (d ∷ l) c) [] ≡ c
    go (yes-is q) f = rw (number-here c d l q) (sym (same-eq c d q))
    go (no-is q) f = rw (number-later c d l q) (f (le_of_suc-le-suc (rw (number-later c d l q) at h)))

-- a class that stands in the list has a number there, at most its place
pub number-le : (l : List Class) (i : ℕ) → i < length l → number_of l (get_or l i []) ≤ i
number-le [] i h = absurd (not-suc-le-zero h)
number-le (d ∷ l) zero h = rw (number-here d d l (same_self d)) zero-le
number-le (d ∷ l) (suc i) h = go (is (same_class (get_or l i []) d)) (number-le l i (le_of_suc-le-suc h))
  where
    go : Is (same_class (get_or l i []) d) → number_of l (get_or l i []) ≤ i → number_of (d ∷ l) (get_or l i []) ≤ suc i
    go (yes-is q) f = rw (number-here (get_or l i []) d l q) zero-le
    go (no-is q) f = rw (number-later (get_or l i []) d l q) (suc-le-suc f)

pub number-most : (l : List Class) (c : Class) → number_of l c ≤ length l
number-most [] c = zero-le
number-most (d ∷ l) c = go (is (same_class c d)) (number-most l c)
  where
    go : Is (same_class c d) → number_of l c ≤ length l → number_of (d ∷ l) c ≤ suc (length l)
    go (yes-is q) f = rw (number-here c d l q) zero-le
    go (no-is q) f = rw (number-later c d l q) (suc-le-suc f)

-- where no class stands twice, the place is the number
pub number-own : (l : List Class) → none_twice l ≡ true → (i : ℕ) → i < length l → number_of l (get_or l i []) ≡ i
number-own [] a i h = absurd (not-suc-le-zero h)
number-own (d ∷ l) a zero h = number-here d d l (same_self d)
number-own (d ∷ l) a (suc i) h = go (is (same_class (get_or l i []) d)) (and_both (not (among l d)) _ a) (λ b. number-own l b i (le_of_suc-le-suc h))
  where
    go : Is (same_class (get_or l i []) d) → (not (among l d) ≡ true) × (none_twice l ≡ true) → (none_twice l ≡ true → number_of l (get_or l i []) ≡ i) → number_of (d ∷ l) (get_or l i []) ≡ suc i
    go (yes-is q) b f =
        let e : get_or l i [] ≡ d = same-eq _ _ q in
        let le : length l ≤ number_of l d = ltb-false _ _ (not-true _ b.0) in
        let m : number_of l d ≤ i = subst (λ (c : Class). number_of l c ≤ i) e (number-le l i (le_of_suc-le-suc h)) in
        absurd (omega arith)
    go (no-is q) b f = number-later (get_or l i []) d l q ∙ ap suc (f b.1)

-- in a longer list the number stays; a class that the first part lacks is looked for in the second
pub number-front : (l m : List Class) (c : Class) → number_of l c < length l → number_of (l ++ m) c ≡ number_of l c
number-front [] m c h = absurd (not-suc-le-zero h)
number-front (d ∷ l) m c h = go (is (same_class c d)) (number-front l m c)
  where
    go : Is (same_class c d) → (number_of l c < length l → number_of (l ++ m) c ≡ number_of l c) → number_of (d ∷ (l ++ m)) c ≡ number_of (d ∷ l) c
    go (yes-is q) f = number-here c d (l ++ m) q ∙ sym (number-here c d l q)
    go (no-is q) f =
        number-later c d (l ++ m) q ∙ ap suc (f (le_of_suc-le-suc (rw (number-later c d l q) at h))) ∙ sym (number-later c d l q)

pub number-back : (l m : List Class) (c : Class) → length l ≤ number_of l c → number_of (l ++ m) c ≡ length l + number_of m c
number-back [] m c h = omega arith
number-back (d ∷ l) m c h = go (is (same_class c d)) (number-back l m c)
  where
    go : Is (same_class c d) → (length l ≤ number_of l c → number_of (l ++ m) c ≡ length l + number_of m c) → number_of (d ∷ (l ++ m)) c ≡ suc (length l) + number_of m c
    go (yes-is q) f = let z : suc (length l) ≤ 0 = rw (number-here c d l q) at h in absurd (not-suc-le-zero z)
    go (no-is q) f =
        let e = f (le_of_suc-le-suc (rw (number-later c d l q) at h)) in
        number-later c d (l ++ m) q ∙ omega arith

-- ---- the classes met

-- what is met stands after what was there, and passes what all pass
pub record Grows (p : Class → Bool) (l all : List Class) : Type 0 where
  pub new : List Class
  pub split : all ≡ l ++ new
  pub pass : all_l p new ≡ true

pub met-grows : (p : Class → Bool) (l cs : List Class) → all_l p cs ≡ true → Grows p l (met l cs)
met-grows p l [] a = record { new = []; split = sym (append-nil l); pass = refl }
met-grows p l (c ∷ cs) a =
    let b : (p c ≡ true) × (all_l p cs ≡ true) = and_both (p c) (all_l p cs) a in
    go (is (among l c)) b (met-grows p l cs b.1) (met-grows p (l ++ c ∷ []) cs b.1)
  where
    go : Is (among l c) → (p c ≡ true) × (all_l p cs ≡ true) → Grows p l (met l cs) → Grows p (l ++ c ∷ []) (met (l ++ c ∷ []) cs) → Grows p l (met l (c ∷ cs))
    go (yes-is q) b f g = rw q f
    go (no-is q) b f g =
        rw q (record { new = c ∷ g.new; split = g.split ∙ append_assoc l (c ∷ []) g.new; pass = and_intro (p c) _ b.0 g.pass })

all_pass : (cs : List Class) → all_l (λ c. true) cs ≡ true
all_pass [] = refl
all_pass (c ∷ cs) = all_pass cs

pub met-split : (l cs : List Class) → (m : List Class) × (met l cs ≡ l ++ m)
met-split l cs = let g = met-grows (λ c. true) l cs (all_pass cs) in (g.new, g.split)

-- a class that is there when all of them are: its number is met's too
pub met-front : (l cs : List Class) (c : Class) → number_of (met l cs) c < length l → number_of l c ≡ number_of (met l cs) c
met-front l cs c h = go (is (among l c)) (met-split l cs)
  where
    go : Is (among l c) → ((m : List Class) × (met l cs ≡ l ++ m)) → number_of l c ≡ number_of (met l cs) c
    go (yes-is q) f = let (m, e) = f in sym (number-front l m c (ltb-true _ _ q)) ∙ ap (λ (x : List Class). number_of x c) (sym e)
    go (no-is q) f =
        let (m, e) = f in
        let b : number_of (l ++ m) c ≡ length l + number_of m c = number-back l m c (ltb-false _ _ q) in
        let h' : number_of (l ++ m) c < length l = rw e at h in
        absurd (omega arith)

-- nothing is met that is not there already
pub met_all : (l cs : List Class) → all_l (among l) cs ≡ true → met l cs ≡ l
met_all l [] a = refl
met_all l (c ∷ cs) a = let b = and_both (among l c) _ a in rw b.0 (met_all l cs b.1)

-- ---- every class met is there, and none twice

among-front : (l m : List Class) (c : Class) → among l c ≡ true → among (l ++ m) c ≡ true
among-front l m c h =
    let q : number_of l c < length l = ltb-true _ _ h in
    lt-ltb (number_of (l ++ m) c) (length (l ++ m)) (omega (arith, number-front l m c q, length-append l m))

among-met : (l cs : List Class) (c : Class) → among l c ≡ true → among (met l cs) c ≡ true
among-met l cs c h = let (m, e) = met-split l cs in rw e (among-front l m c h)

among-last : (l : List Class) (c : Class) → among l c ≡ false → among (l ++ c ∷ []) c ≡ true
among-last l c h =
    let q : length l ≤ number_of l c = ltb-false _ _ h in
    lt-ltb (number_of (l ++ c ∷ []) c) (length (l ++ c ∷ [])) (omega (arith, number-back l (c ∷ []) c q, number-here c c [] (same_self c), length-append l (c ∷ [])))

pub met_has : (l cs : List Class) → all_l (among (met l cs)) cs ≡ true
met_has l [] = refl
met_has l (c ∷ cs) = go (is (among l c)) (met_has l cs) (met_has (l ++ c ∷ []) cs)
  where
    go : Is (among l c) → all_l (among (met l cs)) cs ≡ true → all_l (among (met (l ++ c ∷ []) cs)) cs ≡ true → all_l (among (met l (c ∷ cs))) (c ∷ cs) ≡ true
    go (yes-is q) f g =
        let e : met l (c ∷ cs) ≡ met l cs = rw q in
        subst (λ (m : List Class). all_l (among m) (c ∷ cs) ≡ true) (sym e) (and_intro (among (met l cs) c) _ (among-met l cs c q) f)
    go (no-is q) f g =
        let e : met l (c ∷ cs) ≡ met (l ++ c ∷ []) cs = rw q in
        subst (λ (m : List Class). all_l (among m) (c ∷ cs) ≡ true) (sym e) (and_intro (among (met (l ++ c ∷ []) cs) c) _ (among-met (l ++ c ∷ []) cs c (among-last l c q)) g)

none_last : (l : List Class) (c : Class) → none_twice l ≡ true → among l c ≡ false → none_twice (l ++ c ∷ []) ≡ true
none_last [] c a n = refl
none_last (d ∷ l) c a n = go (is (same_class c d)) (and_both (not (among l d)) _ a) (none_last l c)
  where
    late : length (d ∷ l) ≤ number_of (d ∷ l) c
    late = ltb-false _ _ n

    go : Is (same_class c d) → (not (among l d) ≡ true) × (none_twice l ≡ true) → (none_twice l ≡ true → among l c ≡ false → none_twice (l ++ c ∷ []) ≡ true)
        → none_twice (d ∷ (l ++ c ∷ [])) ≡ true
    go (yes-is q) b f = let h = number-here c d l q in absurd (omega (arith, late))
    go (no-is q) b f =
        let h : number_of (d ∷ l) c ≡ suc (number_of l c) = number-later c d l q in
        let k : length l ≤ number_of l d = ltb-false _ _ (not-true _ b.0) in
        let e : number_of (l ++ c ∷ []) d ≡ length l + number_of (c ∷ []) d = number-back l (c ∷ []) d k in
        let i : number_of (c ∷ []) d ≡ 1 = number-later d c [] (same-sym same_class class-sound c d q) in
        let out : among (l ++ c ∷ []) d ≡ false = le-ltb (number_of (l ++ c ∷ []) d) (length (l ++ c ∷ [])) (omega (arith, length-append l (c ∷ []))) in
        let w : length l ≤ number_of l c = omega (arith, late) in
        and_intro (not (among (l ++ c ∷ []) d)) _ (ap not out) (f b.1 (le-ltb (number_of l c) (length l) w))

pub met-once : (l cs : List Class) → none_twice l ≡ true → none_twice (met l cs) ≡ true
met-once l [] a = a
met-once l (c ∷ cs) a = go (is (among l c)) (met-once l cs a) (met-once (l ++ c ∷ []) cs)
  where
    go : Is (among l c) → none_twice (met l cs) ≡ true → (none_twice (l ++ c ∷ []) ≡ true → none_twice (met (l ++ c ∷ []) cs) ≡ true) → none_twice (met l (c ∷ cs)) ≡ true
    go (yes-is q) f g = rw q f
    go (no-is q) f g = rw q (g (none_last l c a q))

-- ---- in two goes

pub met-append : (l a b : List Class) → met l (a ++ b) ≡ met (met l a) b
met-append l [] b = refl
met-append l (c ∷ a) b = met-append (cond (among l c) l (l ++ c ∷ [])) a b

-- a number once given stays
pub number-stays : (l cs : List Class) (c : Class) → among l c ≡ true → number_of (met l cs) c ≡ number_of l c
number-stays l cs c h = let (m, e) = met-split l cs in rw e (number-front l m c (ltb-true _ _ h))
