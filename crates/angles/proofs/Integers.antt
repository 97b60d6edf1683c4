-- Signed numbers of 32 bits, as the machine reads them back from their bits. Assumes nothing.
use mathlib.Core.Path.{◌≡◌}
use mathlib.Core.Bool.{Bool, true, false}
use Prim.Native.Nat.{ℕ, zero, suc, ◌≤◌, ◌<◌, ◌^◌}
use native.Mathlib.Omega.{arith}
use lib.IntN.{pos, neg_ℤ}
use mir.Syntax.{w32}
use mir.Val.{SFits, to_z, of_z}
use mir.ValLaws.{to_z_pos, to_z-of_z}
use Rattle.angles.specs.Angles.{limit, signed}

neg-fits : (m : ℕ) → m < 2 ^ 31 → SFits w32 (neg_ℤ (pos m))
neg-fits zero h = record { sfits = omega arith }
neg-fits (suc m) h = record { sfits = omega arith }

pub signed_back : (below : Bool) (m : ℕ) → m ≤ limit → to_z w32 (of_z w32 (signed below m)) ≡ signed below m
signed_back true m h = to_z-of_z w32 (neg_ℤ (pos m)) (neg-fits m (omega arith))
signed_back false m h = to_z_pos w32 m (omega arith)
