-- An angle in two numbers, which kind of answer it is and the hundredths. Without an angle the hundredths are a value that no angle has, so that a
-- missing angle is never taken for 0. Definitions only.
use Rattle.std.specs.Prelude.{ℕ, ℤ, negsuc}
use Rattle.angles.specs.declared.Angle.{Angle}
use Rattle.angles.specs.declared.Angle.TheVariants.{Hundredths, Missing, NotAnAngle}

abbrev pub kind_of : Angle → ℕ
kind_of NotAnAngle = 0
kind_of (Hundredths v) = 1
kind_of Missing = 2

-- the least number of 32 bits
abbrev pub no_angle : ℤ
no_angle = negsuc 2147483647

abbrev pub hundredths_of : Angle → ℤ
hundredths_of NotAnAngle = no_angle
hundredths_of (Hundredths v) = v
hundredths_of Missing = no_angle
