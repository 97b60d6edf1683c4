-- Sets of small numbers as lists of Bools, and the least set that holds a seed and is closed under an edge relation, over the numbers below n:
-- as an inductive predicate (`Reach`), and as a list that computes (`closure`, n rounds). Definitions only; that the two agree, and all else, is in proofs/Closure.
use Rattle.std.specs.Prelude.{◌≡◌, Bool, true, false, ◌&&◌, ◌||◌, List, [], ◌∷◌, ℕ, zero, suc, ◌<◌, get_or}
use Rattle.lists.specs.Lists.{tab}

-- some number below n passes the test
abbrev pub any_b : ℕ → (ℕ → Bool) → Bool
any_b zero p = false
any_b (suc n) p = p n || any_b n p

-- ---- a set: membership, inclusion, number of members

abbrev pub In : List Bool → ℕ → Type 0
In s i = get_or s i false ≡ true

abbrev pub Sub : List Bool → List Bool → Type 0
Sub a b = (i : ℕ) → In a i → In b i

abbrev pub count : List Bool → ℕ
count [] = zero
count (true ∷ l) = suc (count l)
count (false ∷ l) = count l

-- ---- the closure, as an inductive predicate
pub data Reach (edge : ℕ → ℕ → Bool) (n : ℕ) (seed : ℕ → Bool) : ℕ → Type 0 where
  from-seed : {s : ℕ} → s < n → seed s ≡ true → Reach edge n seed s
  by-edge : {k t : ℕ} → Reach edge n seed k → t < n → edge k t ≡ true → Reach edge n seed t

-- ---- and as a list that computes
unfoldable pub round : (ℕ → ℕ → Bool) → ℕ → List Bool → List Bool
round edge n s = tab 0 n (λ t. get_or s t false || any_b n (λ k. get_or s k false && edge k t))

unfoldable pub rounds : (ℕ → ℕ → Bool) → ℕ → ℕ → List Bool → List Bool
rounds edge n zero s = s
rounds edge n (suc r) s = round edge n (rounds edge n r s)

unfoldable pub closure : (ℕ → ℕ → Bool) → ℕ → (ℕ → Bool) → List Bool
closure edge n seed = rounds edge n n (tab 0 n seed)
