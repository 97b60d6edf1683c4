-- Where a case's parts end, part by part. Assumes nothing.
use mathlib.Core.Path.{◌≡◌, refl, ap}
use mathlib.Core.List.{List}
use Prim.Native.Nat.{ℕ, zero, suc, ◌+◌, ◌-◌, ◌<◌}
use native.Mathlib.Omega.{arith}
use Rattle.vectors.specs.Reading.{byte_at}
use Rattle.vectors.specs.Cases.{first_part, number_of, end_of}

module _ (case : List ℕ) where
  pub end-first : end_of case 0 ≡ first_part case
  unfolding end_of
  end-first = refl

  pub end_later : (n k : ℕ) → n ≡ byte_at case 1 → 0 < k → end_of case k ≡ first_part case + number_of case (n + k - 1)
  unfolding end_of
  end_later n zero e h = absurd (omega arith)
  end_later n (suc k) e h = let i : byte_at case 1 + k ≡ n + suc k - 1 = omega arith in ap (λ (j : ℕ). first_part case + number_of case j) i
