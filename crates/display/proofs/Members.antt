-- Each edge of a row leads to one target at most, so the classes of all targets together have no more members than the row has edges. Assumes nothing.
use Rattle.std.specs.Prelude.{Option, Some, None}
use mathlib.Core.Path.{◌≡◌, refl}
use mathlib.Core.Bool.{Bool, true, false, false≢true}
use mathlib.Core.List.{List, [], ◌∷◌, map}
use mathlib.Core.Logic.{◌⊎◌, inl, inr}
use Prim.Native.Nat.{ℕ, zero, suc, ◌+◌, ◌≤◌, ◌<◌}
use native.Mathlib.Omega.{arith}
use borrow.Author.Tests.{eqb-true, ne_eqb}
use lib.Dec.{eqb}
use lib.ListN.{length}
use Rattle.lists.specs.Sets.{count}
use Rattle.lists.specs.Lists.{any_l, eq_option}
use Rattle.lists.proofs.Bools.{Is, is, yes-is, no-is, or_cases}

-- the sum of f over k numbers from i on
abbrev pub total : (ℕ → ℕ) → ℕ → ℕ → ℕ
total f i zero = 0
total f i (suc k) = f i + total f (suc i) k

-- how many edges of a row lead to u
abbrev pub members : List (Option ℕ) → ℕ → ℕ
members row u = count (map (eq_option (Some u)) row)

abbrev leading : Option ℕ → ℕ → ℕ
leading o u = count (eq_option (Some u) o ∷ [])

-- ---- one edge

none-leads : (i k : ℕ) → total (leading None) i k ≡ 0
none-leads i zero = refl
none-leads i (suc k) = let e = none-leads (suc i) k in omega arith

past-leads : (v i k : ℕ) → v < i → total (leading (Some v)) i k ≡ 0
past-leads v i zero h = refl
past-leads v i (suc k) h = let e = past-leads v (suc i) k (omega arith) in rw (ne_eqb i v (λ e. omega arith)) (omega arith)

one-leads : (o : Option ℕ) (i k : ℕ) → total (leading o) i k ≤ 1
one-leads None i k = let e = none-leads i k in omega arith
one-leads (Some v) i zero = omega arith
one-leads (Some v) i (suc k) = go (is (eqb i v)) (one-leads (Some v) (suc i) k)
  where
    go : Is (eqb i v) → total (leading (Some v)) (suc i) k ≤ 1 → total (leading (Some v)) i (suc k) ≤ 1
    go (yes-is q) r = let h = eqb-true i v q in let e = past-leads v (suc i) k (omega arith) in rw q (omega arith)
    go (no-is q) r = rw q (omega arith)

-- ---- a row

first_more : (o : Option ℕ) (row : List (Option ℕ)) (u : ℕ) → members (o ∷ row) u ≡ leading o u + members row u
first_more o row u = go (eq_option (Some u) o)
  where
    go : (b : Bool) → count (b ∷ map (eq_option (Some u)) row) ≡ count (b ∷ []) + members row u
    go true = omega arith
    go false = omega arith

total-more : (o : Option ℕ) (row : List (Option ℕ)) (i k : ℕ) → total (members (o ∷ row)) i k ≡ total (leading o) i k + total (members row) i k
total-more o row i zero = refl
total-more o row i (suc k) = let e = first_more o row i in let f = total-more o row (suc i) k in omega arith

total-none : (i k : ℕ) → total (members []) i k ≡ 0
total-none i zero = refl
total-none i (suc k) = let e = total-none (suc i) k in omega arith

pub all-members : (row : List (Option ℕ)) (i k : ℕ) → total (members row) i k ≤ length row
all-members [] i k = let e = total-none i k in omega arith
all-members (o ∷ row) i k = let e = total-more o row i k in let l = one-leads o i k in let m = all-members row i k in omega arith

-- a target has a member
pub some-member : (row : List (Option ℕ)) (u : ℕ) → any_l (eq_option (Some u)) row ≡ true → 1 ≤ members row u
some-member [] u h = absurd (false≢true h)
some-member (o ∷ row) u h = go (or_cases (eq_option (Some u) o) (any_l (eq_option (Some u)) row) h) (some-member row u)
  where
    go : (eq_option (Some u) o ≡ true) ⊎ (any_l (eq_option (Some u)) row ≡ true) → (any_l (eq_option (Some u)) row ≡ true → 1 ≤ members row u) → 1 ≤ members (o ∷ row) u
    go (inl q) f = rw q (omega arith)
    go (inr q) f = let e = first_more o row u in let i = f q in omega arith
