-- Bools, Options and tests of two numbers, by cases. Assumes nothing.
use Rattle.std.specs.Prelude.{Option, Some, None}
use mathlib.Core.Path.{◌≡◌, refl, sym}
use mathlib.Core.Bool.{Bool, true, false, not, ◌&&◌, ◌||◌, false≢true}
use mathlib.Core.Logic.{◌⊎◌, inl, inr}
use Prim.Native.Nat.{ℕ, ◌<◌, ◌≤◌}
use borrow.Author.Tests.{ltb-true, ltb-false, eqb-true, eqb-false}
use native.Mathlib.Omega.{arith}
use lib.Dec.{eqb, ltb}

-- a Bool is one or the other
pub data Is (b : Bool) : Type 0 where
  yes-is : b ≡ true → Is b
  no-is : b ≡ false → Is b

pub is : (b : Bool) → Is b
is true = yes-is refl
is false = no-is refl

pub or_cases : (a b : Bool) → (a || b) ≡ true → (a ≡ true) ⊎ (b ≡ true)
or_cases true b h = inl refl
or_cases false b h = inr h

pub or_left : (a b : Bool) → a ≡ true → (a || b) ≡ true
or_left true b h = refl
or_left false b h = absurd (false≢true h)

pub or_right : (a b : Bool) → b ≡ true → (a || b) ≡ true
or_right true b h = refl
or_right false b h = h

pub and_both : (a b : Bool) → (a && b) ≡ true → (a ≡ true) × (b ≡ true)
and_both true b h = (refl, h)
and_both false b h = absurd (false≢true h)

pub and_intro : (a b : Bool) → a ≡ true → b ≡ true → (a && b) ≡ true
and_intro true b h k = k
and_intro false b h k = h

-- two Bools are equal where each is true when the other is
pub bool-ext : (a b : Bool) → (a ≡ true → b ≡ true) → (b ≡ true → a ≡ true) → a ≡ b
bool-ext true true f g = refl
bool-ext true false f g = sym (f refl)
bool-ext false true f g = g refl
bool-ext false false f g = refl

pub and-right-false : (a b : Bool) → b ≡ false → (a && b) ≡ false
and-right-false true b h = h
and-right-false false b h = refl

pub and-true : (a : Bool) → (a && true) ≡ a
and-true true = refl
and-true false = refl

pub and-false : (a : Bool) → (a && false) ≡ false
and-false true = refl
and-false false = refl

pub or-false : (a : Bool) → (a || false) ≡ a
or-false true = refl
or-false false = refl

pub or_assoc : (a b c : Bool) → ((a || b) || c) ≡ (a || (b || c))
or_assoc true b c = refl
or_assoc false b c = refl

-- ---- Options

pub none-some : {A : Type 0} {a : A} → ◌≡◌ {A = Option A} None (Some a) → ⊥
none-some e = let z : ◌≡◌ {A = ℕ} 0 1 = cc in omega arith

pub some_inj : {A : Type 0} {a b : A} → ◌≡◌ {A = Option A} (Some a) (Some b) → a ≡ b
some_inj e = cc

-- ---- two numbers

-- a number is less than another, the same, or more
pub data Order (a b : ℕ) : Type 0 where
  less : a < b → Order a b
  equal : a ≡ b → Order a b
  more : b < a → Order a b

pub order : (a b : ℕ) → Order a b
order a b = go (is (ltb a b)) (is (eqb a b))
  where
    go : Is (ltb a b) → Is (eqb a b) → Order a b
    go (yes-is h) e = less (ltb-true a b h)
    go (no-is h) (yes-is e) = equal (eqb-true a b e)
    go (no-is h) (no-is e) =
        let l = ltb-false a b h in
        let n : a ≡ b → ⊥ = eqb-false a b e in
        more (omega (arith, n))

pub lt-or-le : (a b : ℕ) → (a < b) ⊎ (b ≤ a)
lt-or-le a b = go (is (ltb a b))
  where
    go : Is (ltb a b) → (a < b) ⊎ (b ≤ a)
    go (yes-is q) = inl (ltb-true a b q)
    go (no-is q) = inr (ltb-false a b q)

-- ---- what a disjunction tells

pub or-neither : (a b : Bool) → (a || b) ≡ false → (a ≡ false) × (b ≡ false)
or-neither true b h = absurd (false≢true (sym h))
or-neither false b h = (refl, h)

pub neither-or : (a b : Bool) → a ≡ false → b ≡ false → (a || b) ≡ false
neither-or true b h k = h
neither-or false b h k = k

pub or-other : (a b : Bool) → a ≡ false → (a || b) ≡ true → b ≡ true
or-other true b f h = absurd (false≢true (sym f))
or-other false b f h = h

-- a disjunction with a negation is an implication
pub implied : (a b : Bool) → (not a || b) ≡ true → a ≡ true → b ≡ true
implied true b h e = h
implied false b h e = absurd (false≢true e)
