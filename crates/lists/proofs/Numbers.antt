-- The numbering of a set's members: how long it is, what stands at a number that is no member, and a set with nothing more at its end.
-- Assumes nothing.
use Rattle.std.specs.Prelude.{Some, None}
use mathlib.Core.Path.{◌≡◌, refl, sym, ap}
use mathlib.Core.Bool.{Bool, true, false, false≢true}
use mathlib.Core.List.{List, [], ◌∷◌, ◌++◌}
use Prim.Native.Nat.{ℕ, zero, suc, ◌≤◌, zero-le, suc-le-suc}
use native.Mathlib.Omega.{arith}
use lib.ListN.{length, get_or, take, replicate}
use Rattle.lists.specs.Lists.{number_from}
use Rattle.lists.specs.Sets.{count}

pub number-length : (k : ℕ) (keep : List Bool) → length (number_from k keep) ≡ length keep
number-length k [] = refl
number-length k (true ∷ keep) = ap suc (number-length (suc k) keep)
number-length k (false ∷ keep) = ap suc (number-length k keep)

pub number-none : (k : ℕ) (keep : List Bool) (s : ℕ) → get_or keep s false ≡ false → get_or (number_from k keep) s None ≡ None
number-none k [] s e = refl
number-none k (true ∷ keep) zero e = absurd (false≢true (sym e))
number-none k (false ∷ keep) zero e = refl
number-none k (true ∷ keep) (suc s) e = number-none (suc k) keep s e
number-none k (false ∷ keep) (suc s) e = number-none k keep s e

pub number-padded : (k : ℕ) (keep : List Bool) (j : ℕ) → number_from k (keep ++ replicate j false) ≡ number_from k keep ++ replicate j None
number-padded k [] zero = refl
number-padded k [] (suc j) = ap (◌∷◌ None) (number-padded k [] j)
number-padded k (true ∷ keep) j = ap (◌∷◌ (Some k)) (number-padded (suc k) keep j)
number-padded k (false ∷ keep) j = ap (◌∷◌ None) (number-padded k keep j)

-- of the numbers below n, no more are members
pub count-few : (keep : List Bool) (n : ℕ) → count (take n keep) ≤ n
count-few keep zero = zero-le
count-few [] (suc n) = zero-le
count-few (true ∷ keep) (suc n) = suc-le-suc (count-few keep n)
count-few (false ∷ keep) (suc n) = let h = count-few keep n in omega arith
