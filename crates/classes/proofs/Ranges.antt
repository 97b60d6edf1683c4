-- A byte is in the ranges of a class, and its comparisons hold of it, exactly if the class has it. Assumes nothing.
use mathlib.Core.Path.{◌≡◌, refl, sym, ap, ◌∙◌}
use mathlib.Core.Bool.{Bool, true, false, not, cond, ◌&&◌, ◌||◌}
use mathlib.Core.List.{List, [], ◌∷◌, ◌++◌, append_assoc}
use Prim.Native.Nat.{ℕ, zero, suc, ◌+◌, ◌≤◌, ◌<◌}
use native.Mathlib.Omega.{arith}
use borrow.Author.Tests.{eqb-true, eqb-false, eq-eqb, ne_eqb, le-leb, lt-leb}
use lib.Dec.{eqb, leb}
use lib.ListN.{get_or, replicate}
use Rattle.lists.proofs.Bools.{Is, yes-is, no-is, is, Order, less, more, order, and-true, and-false, or_assoc, equal}
use Rattle.classes.specs.Classes.{Class, has, Range, inside, within, widen, ranges_from, ranges, Comparison, join, joined, comparisons, excepted, holds, some_holds}

-- ---- maximal ranges: ascending, from `low` on, and between two of them there is at least one byte

pub data Apart : ℕ → List Range → Type 0 where
  apart-nil : {low : ℕ} → Apart low []
  apart_cons : {low : ℕ} {r : Range} {rs : List Range} → low ≤ r.first → r.first ≤ r.last → Apart (suc (suc r.last)) rs → Apart low (r ∷ rs)

more-ranges : (low first last : ℕ) {rs : List Range} → low ≤ first → first ≤ last → Apart (suc (suc last)) rs → Apart low (record { first = first; last = last } ∷ rs)
more-ranges low first last a b c = apart_cons a b c

lower : {low high : ℕ} {rs : List Range} → low ≤ high → Apart high rs → Apart low rs
lower h apart-nil = apart-nil
lower {low} h (apart_cons {r = r} a b c) = more-ranges low r.first r.last (omega arith) b c

widen-apart : (b : ℕ) {rs : List Range} → Apart (suc b) rs → Apart b (widen b rs)
widen-apart b apart-nil = more-ranges b b b (omega arith) (omega arith) apart-nil
widen-apart b (apart_cons {r = r} {rs = rs} h k a) = go (is (eqb r.first (suc b)))
  where
    go : Is (eqb r.first (suc b)) → Apart b (widen b (r ∷ rs))
    go (yes-is e) = rw e (more-ranges b b r.last (omega arith) (omega arith) a)
    go (no-is e) =
        let n : r.first ≡ suc b → ⊥ = eqb-false _ _ e in
        rw e (more-ranges b b b (omega arith) (omega arith) (more-ranges (suc (suc b)) r.first r.last (omega (arith, n)) k a))

ranges-from-apart : (b : ℕ) (c : List Bool) → Apart b (ranges_from b c)
ranges-from-apart b [] = apart-nil
ranges-from-apart b (true ∷ c) = widen-apart b (ranges-from-apart (suc b) c)
ranges-from-apart b (false ∷ c) = lower (omega arith) (ranges-from-apart (suc b) c)

pub ranges_apart : (c : Class) → Apart 0 (ranges c)
unfolding ranges
ranges_apart c = ranges-from-apart 0 c

-- ---- membership in the ranges is the flag

inside-front : (b last x : ℕ) → b ≤ last → inside (record { first = b; last = last }) x ≡ (eqb x b || inside (record { first = suc b; last = last }) x)
inside-front b last x h = go (order x b)
  where
    go : Order x b → inside (record { first = b; last = last }) x ≡ (eqb x b || inside (record { first = suc b; last = last }) x)
    go (less l) = rw (lt-leb b x l, ne_eqb x b (λ e. omega arith), lt-leb (suc b) x (omega arith))
    go (equal e) = rw (le-leb b x (omega arith), eq-eqb x b e, le-leb x last (omega arith))
    go (more m) = rw (le-leb b x (omega arith), ne_eqb x b (λ e. omega arith), le-leb (suc b) x m)

inside_one : (b x : ℕ) → inside (record { first = b; last = b }) x ≡ eqb x b
inside_one b x = go (order x b)
  where
    go : Order x b → inside (record { first = b; last = b }) x ≡ eqb x b
    go (less l) = rw (lt-leb b x l, ne_eqb x b (λ e. omega arith))
    go (equal e) = rw (le-leb b x (omega arith), eq-eqb x b e, le-leb x b (omega arith))
    go (more m) = rw (le-leb b x (omega arith), ne_eqb x b (λ e. omega arith), lt-leb x b m)

widen-within : (b x : ℕ) {rs : List Range} → Apart (suc b) rs → within (widen b rs) x ≡ (eqb x b || within rs x)
widen-within b x apart-nil = rw (inside_one b x)
widen-within b x (apart_cons {r = r} {rs = rs} h k a) = go (is (eqb r.first (suc b)))
  where
    go : Is (eqb r.first (suc b)) → within (widen b (r ∷ rs)) x ≡ (eqb x b || (inside r x || within rs x))
    go (yes-is e) =
        let q : r.first ≡ suc b = eqb-true _ _ e in
        rw (e, inside-front b r.last x (omega arith), q) (or_assoc (eqb x b) (inside (record { first = suc b; last = r.last }) x) (within rs x))
    go (no-is e) = rw (e, inside_one b x)

pub within-below : (low x : ℕ) {rs : List Range} → Apart low rs → x < low → within rs x ≡ false
within-below low x apart-nil h = refl
within-below low x (apart_cons {r = r} {rs = rs} a b c) h =
    rw (lt-leb r.first x (omega arith)) (within-below (suc (suc r.last)) x c (omega arith))

from-has : (b : ℕ) (c : List Bool) (i : ℕ) → within (ranges_from b c) (b + i) ≡ get_or c i false
from-has b [] i = refl
from-has b (true ∷ c) zero = widen-within b (b + 0) (ranges-from-apart (suc b) c) ∙ rw (eq-eqb (b + 0) b (omega arith))
from-has b (true ∷ c) (suc i) =
    let e : b + suc i ≡ suc b + i = omega arith in
    widen-within b (b + suc i) (ranges-from-apart (suc b) c) ∙ rw (ne_eqb (b + suc i) b (λ q. omega arith), e) (from-has (suc b) c i)
from-has b (false ∷ c) zero = within-below (suc b) (b + 0) (ranges-from-apart (suc b) c) (omega arith)
from-has b (false ∷ c) (suc i) = let e : b + suc i ≡ suc b + i = omega arith in rw e (from-has (suc b) c i)

pub within_has : (c : Class) (b : ℕ) → within (ranges c) b ≡ has c b
unfolding ranges
within_has c b = let e : b ≡ 0 + b = omega arith in ap (within (ranges_from 0 c)) e ∙ from-has 0 c b

-- ---- comparisons

-- of the first comparison: from `low` on, and none of its exceptions lies below it
data Low (low : ℕ) : List Comparison → Type 0 where
  low-nil : Low low []
  low-cons : {m : Comparison} {ms : List Comparison} → low ≤ m.range.first → m.range.first ≤ m.range.last
      → ((x : ℕ) → x < m.range.first → excepted m.except x ≡ false) → Low low (m ∷ ms)

join-low : (low : ℕ) (r : Range) {ms : List Comparison} → low ≤ r.first → r.first ≤ r.last → Low (suc (suc r.last)) ms → Low low (join r ms)
join-low low r h k low-nil = low-cons h k (λ x l. refl)
join-low low r h k (low-cons {m = m} {ms = ms} a b f) = go (is (eqb m.range.first (suc (suc r.last))))
  where
    go : Is (eqb m.range.first (suc (suc r.last))) → Low low (join r (m ∷ ms))
    go (yes-is e) =
        rw e (low-cons {m = record { range = record { first = r.first; last = m.range.last }; except = suc r.last ∷ m.except }} h (omega arith) (λ x l. rw (ne_eqb x (suc r.last) (λ q. omega arith)) (f x (omega arith))))
    go (no-is e) = rw e (low-cons h k (λ x l. refl))

join-holds : (r : Range) (x : ℕ) {ms : List Comparison} → r.first ≤ r.last → Low (suc (suc r.last)) ms
    → some_holds (join r ms) x ≡ (inside r x || some_holds ms x)
join-holds r x k low-nil = ap (λ (t : Bool). t || false) (and-true (inside r x))
join-holds r x k (low-cons {m = m} {ms = ms} a b f) = go (is (eqb m.range.first (suc (suc r.last))))
  where
    wide : Bool
    wide = inside (record { first = r.first; last = m.range.last }) x && not (eqb x (suc r.last) || excepted m.except x)

    tidy : (t : Bool) → ((t && true) && not (false || false)) ≡ ((t && true) || ((false && leb x m.range.last) && not false))
    tidy true = refl
    tidy false = refl

    both : m.range.first ≡ suc (suc r.last) → Order x (suc r.last) → wide ≡ (inside r x || holds m x)
    both e (less l) =
        rw (f x (omega arith), ne_eqb x (suc r.last) (λ q. omega arith), le-leb x m.range.last (omega arith), le-leb x r.last (omega arith), lt-leb m.range.first x (omega arith))
        (tidy (leb r.first x))
    both e (equal q) =
        rw (eq-eqb x (suc r.last) q, lt-leb x r.last (omega arith), lt-leb m.range.first x (omega arith), and-false (inside (record { first = r.first; last = m.range.last }) x), and-false (leb r.first x))
    both e (more l) =
        rw (ne_eqb x (suc r.last) (λ q. omega arith), lt-leb x r.last (omega arith), le-leb m.range.first x (omega arith), le-leb r.first x (omega arith))

    go : Is (eqb m.range.first (suc (suc r.last))) → some_holds (join r (m ∷ ms)) x ≡ (inside r x || (holds m x || some_holds ms x))
    go (yes-is e) = rw e (ap (λ (t : Bool). t || some_holds ms x) (both (eqb-true _ _ e) (order x (suc r.last))) ∙ or_assoc (inside r x) (holds m x) (some_holds ms x))
    go (no-is e) = rw e (ap (λ (t : Bool). t || some_holds (m ∷ ms) x) (and-true (inside r x)))

joined-low : (low : ℕ) {rs : List Range} → Apart low rs → Low low (joined rs)
joined-low low apart-nil = low-nil
joined-low low (apart_cons {r = r} a b c) = join-low low r a b (joined-low _ c)

joined-holds : (low x : ℕ) {rs : List Range} → Apart low rs → some_holds (joined rs) x ≡ within rs x
joined-holds low x apart-nil = refl
joined-holds low x (apart_cons {r = r} a b c) = join-holds r x b (joined-low _ c) ∙ ap (λ (t : Bool). inside r x || t) (joined-holds _ x c)

-- comparisons hold of a byte exactly if the class has it
pub comparisons-has : (c : Class) (b : ℕ) → some_holds (comparisons c) b ≡ has c b
unfolding comparisons
comparisons-has c b = joined-holds 0 b (ranges_apart c) ∙ within_has c b

-- ---- the equations that a reader expects, and that a loop over the flags needs: a run of set flags is one range

first-apart : (b : ℕ) {rs : List Range} → Apart (suc (suc b)) rs → widen b rs ≡ record { first = b; last = b } ∷ rs
first-apart b apart-nil = refl
first-apart b (apart_cons {r = r} h k a) = rw (ne_eqb r.first (suc b) (λ e. omega arith))

-- up to a flag that is not set
pub run-gap : (b m : ℕ) (c : List Bool) → ranges_from b (replicate (suc m) true ++ false ∷ c) ≡ record { first = b; last = b + m } ∷ ranges_from (suc (suc (b + m))) c
run-gap b zero c =
    let e : b + 0 ≡ b = omega arith in
    rw e (first-apart b (ranges-from-apart (suc (suc b)) c))
run-gap b (suc m) c =
    let e : b + suc m ≡ suc b + m = omega arith in
    rw (e, run-gap (suc b) m c, eq-eqb (suc b) (suc b) refl)

-- up to the end
pub run_end : (b m : ℕ) → ranges_from b (replicate (suc m) true) ≡ record { first = b; last = b + m } ∷ []
run_end b zero = let e : b + 0 ≡ b = omega arith in rw e
run_end b (suc m) =
    let e : b + suc m ≡ suc b + m = omega arith in
    rw (e, run_end (suc b) m, eq-eqb (suc b) (suc b) refl)

-- ---- the same for comparisons, from the left as `impl_with_cmp` goes: the last one is either lengthened by the next range, or done

-- a comparison in front of those of the ranges after it
abbrev pub attach : Comparison → List Comparison → List Comparison
attach m [] = m ∷ []
attach m (n ∷ ns) =
    cond (eqb n.range.first (suc (suc m.range.last)))
    (record { range = record { first = m.range.first; last = n.range.last }; except = m.except ++ (suc m.range.last ∷ n.except) } ∷ ns)
    (m ∷ (n ∷ ns))

pub join-attach : (r : Range) (ms : List Comparison) → join r ms ≡ attach (record { range = r; except = [] }) ms
join-attach r [] = refl
join-attach r (m ∷ ms) = refl

joined-first : (r : Range) (ms : List Comparison) → (m : Comparison) × (ns : List Comparison) × (join r ms ≡ m ∷ ns) × (m.range.first ≡ r.first)
joined-first r [] = (record { range = r; except = [] }, [], refl, refl)
joined-first r (n ∷ ns) = go (is (eqb n.range.first (suc (suc r.last))))
  where
    go : Is (eqb n.range.first (suc (suc r.last))) → (m : Comparison) × (ls : List Comparison) × (join r (n ∷ ns) ≡ m ∷ ls) × (m.range.first ≡ r.first)
    go (yes-is q) = (record { range = record { first = r.first; last = n.range.last }; except = suc r.last ∷ n.except }, ns, rw q, refl)
    go (no-is q) = (record { range = r; except = [] }, n ∷ ns, rw q, refl)

-- a byte between: the next range lengthens the comparison
pub attach-joins : (m : Comparison) (r : Range) (rs : List Range) → r.first ≡ suc (suc m.range.last)
    → attach m (joined (r ∷ rs)) ≡ attach (record { range = record { first = m.range.first; last = r.last }; except = m.except ++ (suc m.range.last ∷ []) }) (joined rs)
attach-joins m r rs e = go (joined rs)
  where
    near : eqb r.first (suc (suc m.range.last)) ≡ true
    near = eq-eqb _ _ e

    go : (ms : List Comparison) → attach m (join r ms) ≡ attach (record { range = record { first = m.range.first; last = r.last }; except = m.except ++ (suc m.range.last ∷ []) }) ms
    go [] = rw near
    go (n ∷ ns) = by (is (eqb n.range.first (suc (suc r.last))))
      where
        by : Is (eqb n.range.first (suc (suc r.last)))
            → attach m (join r (n ∷ ns)) ≡ attach (record { range = record { first = m.range.first; last = r.last }; except = m.except ++ (suc m.range.last ∷ []) }) (n ∷ ns)
        by (yes-is q) = rw (q, near) (ap (λ (x : List ℕ). record { range = record { first = m.range.first; last = n.range.last }; except = x } ∷ ns)
            (sym (append_assoc m.except (suc m.range.last ∷ []) (suc r.last ∷ n.except))))
        by (no-is q) = rw (q, near)

-- else it is done
pub attach-done : (m : Comparison) (r : Range) (rs : List Range) → (r.first ≡ suc (suc m.range.last) → ⊥) → attach m (joined (r ∷ rs)) ≡ m ∷ joined (r ∷ rs)
attach-done m r rs ne =
    let (n, ns, e, f) = joined-first r (joined rs) in
    rw (e, ne_eqb n.range.first (suc (suc m.range.last)) (λ q. ne (sym f ∙ q)))
