-- A set of numbers to which members are added, as a search does (crate worklist): one member more, and how many members there are. Assumes nothing.
use mathlib.Core.Path.{◌≡◌, refl, sym, ap}
use mathlib.Core.Bool.{Bool, true, false, false≢true}
use mathlib.Core.List.{List, [], ◌∷◌}
use mathlib.Core.Logic.{◌⊎◌, inl, inr, ⊎_elim}
use Prim.Native.Nat.{ℕ, zero, suc, ◌+◌, ◌≤◌, ◌<◌}
use native.Mathlib.Nat.{not-suc-le-zero, le_of_suc-le-suc}
use native.Mathlib.Omega.{arith}
use lib.ListN.{length, get_or, set, take, length-set, replicate}
use native.Mathlib.Numerals.{add-one}
use Rattle.lists.specs.Sets.{In, count}
use Rattle.lists.proofs.Counting.{count-length}

-- ---- one more member
pub in-keeps : (l : List Bool) (i k : ℕ) → In l k → In (set l i true) k
in-keeps [] i k h = h
in-keeps (x ∷ l) zero zero h = refl
in-keeps (x ∷ l) zero (suc k) h = h
in-keeps (x ∷ l) (suc i) zero h = h
in-keeps (x ∷ l) (suc i) (suc k) h = in-keeps l i k h

pub in-cases : (l : List Bool) (i k : ℕ) → In (set l i true) k → (k ≡ i) ⊎ In l k
in-cases [] i k h = inr h
in-cases (x ∷ l) zero zero h = inl refl
in-cases (x ∷ l) zero (suc k) h = inr h
in-cases (x ∷ l) (suc i) zero h = inr h
in-cases (x ∷ l) (suc i) (suc k) h = ⊎_elim (λ e. inl (ap suc e)) (λ r. inr r) (in-cases l i k h)

pub count-more : (l : List Bool) (i : ℕ) → i < length l → get_or l i false ≡ false → count (set l i true) ≡ count l + 1
count-more [] i h e = absurd (not-suc-le-zero h)
count-more (true ∷ l) zero h e = absurd (false≢true (sym e))
count-more (false ∷ l) zero h e = omega arith
count-more (true ∷ l) (suc i) h e = let r = count-more l i (le_of_suc-le-suc h) e in omega arith
count-more (false ∷ l) (suc i) h e = count-more l i (le_of_suc-le-suc h) e

-- where one is out, the members are fewer than the places
pub count_room : (l : List Bool) (i : ℕ) → i < length l → get_or l i false ≡ false → count l < length l
count_room l i h e =
    let a = count-more l i h e in
    let b : count (set l i true) ≤ length (set l i true) = count-length (set l i true) in
    let d : length (set l i true) ≡ length l = length-set l i true in
    omega arith

-- ---- all of a number's targets are members

abbrev pub AllIn : (ℕ → ℕ) → List Bool → ℕ → Type 0
AllIn f out m = (j : ℕ) → j < m → In out (f j)

pub none_in : (n i : ℕ) → get_or (replicate n false) i false ≡ false
none_in zero i = refl
none_in (suc n) zero = refl
none_in (suc n) (suc i) = none_in n i

-- ---- the number of members, counted from the front
pub count-take-in : (l : List Bool) (i : ℕ) → In l i → count (take (i + 1) l) ≡ count (take i l) + 1
count-take-in l i h = rw add-one (go l i h)
  where
    go : (l : List Bool) (i : ℕ) → In l i → count (take (suc i) l) ≡ count (take i l) + 1
    go [] i h = absurd (false≢true h)
    go (true ∷ l) zero h = refl
    go (false ∷ l) zero h = absurd (false≢true h)
    go (true ∷ l) (suc i) h = let r = go l i h in omega arith
    go (false ∷ l) (suc i) h = go l i h

pub count-take-out : (l : List Bool) (i : ℕ) → get_or l i false ≡ false → count (take (i + 1) l) ≡ count (take i l)
count-take-out l i h = rw add-one (go l i h)
  where
    go : (l : List Bool) (i : ℕ) → get_or l i false ≡ false → count (take (suc i) l) ≡ count (take i l)
    go [] zero h = refl
    go [] (suc i) h = refl
    go (true ∷ l) zero h = absurd (false≢true (sym h))
    go (false ∷ l) zero h = refl
    go (true ∷ l) (suc i) h = ap suc (go l i h)
    go (false ∷ l) (suc i) h = go l i h
