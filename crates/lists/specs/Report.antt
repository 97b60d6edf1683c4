-- What a call tells, in numbers: "A refusal returns its number and zeros elsewhere". Each answer has a definition that gives it in these terms.
-- Definitions only.
use Rattle.std.specs.Prelude.{Bool, cond, List, [], ◌∷◌, ℕ, zero, suc, length, replicate}

pub record Report : Type 0 where
  pub refusal : ℕ  -- 0: the call was not refused
  pub values : List ℕ

abbrev pub reporting : List ℕ → Report
reporting values = record { refusal = 0; values = values }

-- refusal n of a call that has k values
abbrev pub refusing : ℕ → ℕ → Report
refusing n k = record { refusal = n; values = replicate k 0 }

-- ---- which refusal it is

-- number n where its condition holds, and 0 where it does not
abbrev pub on : Bool → ℕ → ℕ
on applies n = cond applies n 0

-- "Lowest number first": of numbers in the order in which they are asked, the first that is not 0; 0 where all are
abbrev pub lowest : List ℕ → ℕ
lowest [] = 0
lowest (zero ∷ ns) = lowest ns
lowest (suc n ∷ ns) = suc n

-- a call that is refused by n, or that tells these values where n is 0
abbrev pub answering : ℕ → List ℕ → Report
answering zero values = reporting values
answering (suc n) values = refusing (suc n) (length values)
