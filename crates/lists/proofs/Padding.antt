-- The default of a reading, and a list with one value after it as often as wanted, which reads as the list where that value is the default.
-- Assumes nothing.
use mathlib.Core.Path.{◌≡◌, refl, sym, ◌∙◌}
use mathlib.Core.List.{List, [], ◌∷◌, ◌++◌}
use Prim.Native.Nat.{ℕ, zero, suc, ◌+◌, ◌-◌, ◌≤◌}
use native.Mathlib.Omega.{arith}
use lib.ListN.{length, get_or, replicate, length-append, length-replicate}
use lib.Seq.{ext_get_or}

module _ {A : Type 0} (d : A) where
  pub replicate-at : (k i : ℕ) → get_or (replicate k d) i d ≡ d
  replicate-at zero i = refl
  replicate-at (suc k) zero = refl
  replicate-at (suc k) (suc i) = replicate-at k i

  pub padding-at : (l : List A) (k i : ℕ) → get_or (l ++ replicate k d) i d ≡ get_or l i d
  padding-at [] k i = replicate-at k i
  padding-at (x ∷ l) k zero = refl
  padding-at (x ∷ l) k (suc i) = padding-at l k i

  -- a list of a given length that reads as a shorter one is that one with padding
  pub padded : (out l : List A) (cap : ℕ) → length out ≡ cap → length l ≤ cap → ((i : ℕ) → get_or out i d ≡ get_or l i d) → out ≡ l ++ replicate (cap - length l) d
  padded out l cap size fits same =
      let k = cap - length l in
      let e : length (l ++ replicate k d) ≡ length l + length (replicate k d) = length-append l (replicate k d) in
      let r = length-replicate k d in
      ext_get_or d out (l ++ replicate k d) (omega arith) (λ i h. same i ∙ sym (padding-at l k i))
