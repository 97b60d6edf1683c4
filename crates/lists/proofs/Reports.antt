-- Refusals told: the lowest of numbers, and an answer by it. Assumes nothing.
use mathlib.Core.Path.{◌≡◌, refl, sym, ap}
use mathlib.Core.List.{List, [], ◌∷◌}
use Prim.Native.Nat.{ℕ, zero, suc}
use lib.ListN.{length}
use Rattle.lists.specs.Report.{refusing, lowest, answering}

pub lowest-one : (n : ℕ) → lowest (n ∷ []) ≡ n
lowest-one zero = refl
lowest-one (suc n) = refl

-- a refusal has a zero for each value
pub refusing-as : (n k : ℕ) (values : List ℕ) → length values ≡ k → refusing (suc n) k ≡ answering (suc n) values
refusing-as n k values e = sym (ap (refusing (suc n)) e)
