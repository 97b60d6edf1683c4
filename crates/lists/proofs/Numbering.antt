-- A part of a list by a set, and the numbering of its members. Assumes nothing.
use Rattle.std.specs.Prelude.{Option, Some, None}
use mathlib.Core.Path.{◌≡◌, refl, ap, ◌∙◌}
use mathlib.Core.Bool.{Bool, true, false, false≢true}
use mathlib.Core.List.{List, [], ◌∷◌}
use Prim.Native.Nat.{ℕ, zero, suc, ◌+◌, ◌<◌, zero-le, suc-le-suc}
use native.Mathlib.Nat.{not-suc-le-zero, le_of_suc-le-suc}
use native.Mathlib.Omega.{arith}
use lib.ListN.{length, get_or, take}
use Rattle.lists.specs.Lists.{select, number_from}
use Rattle.lists.specs.Sets.{In, count}
use Rattle.lists.proofs.Bools.{none-some, some_inj}

module _ {A : Type 0} (d : A) where
  -- a member's new number is the place of its element
  pub number-found : (k : ℕ) (keep : List Bool) (l : List A) → length keep ≡ length l → (s i : ℕ) → get_or (number_from k keep) s None ≡ Some i
      → (j : ℕ) × (i ≡ k + j) × (j < length (select keep l)) × (get_or (select keep l) j d ≡ get_or l s d)
  number-found k [] l e s i h = absurd (none-some h)
  number-found k (b ∷ keep) [] e s i h = absurd (omega arith)
  number-found k (true ∷ keep) (x ∷ l) e zero i h = let q : k ≡ i = some_inj h in (0, omega arith, suc-le-suc zero-le, refl)
  number-found k (true ∷ keep) (x ∷ l) e (suc s) i h =
      let (j, a, b, c) = number-found (suc k) keep l (omega arith) s i h in (suc j, omega arith, suc-le-suc b, c)
  number-found k (false ∷ keep) (x ∷ l) e zero i h = absurd (none-some h)
  number-found k (false ∷ keep) (x ∷ l) e (suc s) i h = number-found k keep l (omega arith) s i h

  -- every number is a member's
  pub number-onto : (k : ℕ) (keep : List Bool) (l : List A) (j : ℕ) → j < length (select keep l)
      → (s : ℕ) × (get_or (number_from k keep) s None ≡ Some (k + j))
  number-onto k [] l j h = absurd (not-suc-le-zero h)
  number-onto k (b ∷ keep) [] j h = absurd (not-suc-le-zero h)
  number-onto k (true ∷ keep) (x ∷ l) zero h = (0, ap {B = Option ℕ} Some (omega arith))
  number-onto k (true ∷ keep) (x ∷ l) (suc j) h =
      let (s, e) = number-onto (suc k) keep l j (le_of_suc-le-suc h) in (suc s, e ∙ ap {B = Option ℕ} Some (omega arith))
  number-onto k (false ∷ keep) (x ∷ l) j h = let (s, e) = number-onto k keep l j h in (suc s, e)

-- a member's number is the number of members before it
pub number-count : (k : ℕ) (keep : List Bool) (s : ℕ) → In keep s → get_or (number_from k keep) s None ≡ Some (k + count (take s keep))
number-count k [] s h = absurd (false≢true h)
number-count k (true ∷ keep) zero h = ap {B = Option ℕ} Some (omega arith)
number-count k (false ∷ keep) zero h = absurd (false≢true h)
number-count k (true ∷ keep) (suc s) h = number-count (suc k) keep s h ∙ ap {B = Option ℕ} Some (omega arith)
number-count k (false ∷ keep) (suc s) h = number-count k keep s h

-- the members are those that have a number
pub number_in : (k : ℕ) (keep : List Bool) (s : ℕ) → In keep s → (i : ℕ) × (get_or (number_from k keep) s None ≡ Some i)
number_in k [] s h = absurd (false≢true h)
number_in k (true ∷ keep) zero h = (k, refl)
number_in k (false ∷ keep) zero h = absurd (false≢true h)
number_in k (true ∷ keep) (suc s) h = number_in (suc k) keep s h
number_in k (false ∷ keep) (suc s) h = number_in k keep s h

pub in-number : (k : ℕ) (keep : List Bool) (s i : ℕ) → get_or (number_from k keep) s None ≡ Some i → In keep s
in-number k [] s i h = absurd (none-some h)
in-number k (true ∷ keep) zero i h = refl
in-number k (false ∷ keep) zero i h = absurd (none-some h)
in-number k (true ∷ keep) (suc s) i h = in-number (suc k) keep s i h
in-number k (false ∷ keep) (suc s) i h = in-number k keep s i h
