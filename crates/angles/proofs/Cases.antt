-- Texts read and angles written, computed. Assumes nothing.
use Rattle.std.specs.Prelude.{Some, None}
use mathlib.Core.Path.{◌≡◌, refl}
use mathlib.Core.List.{List, [], ◌∷◌, ◌++◌, map}
use Prim.Native.Nat.{ℕ, ◌-◌}
use lib.IntN.{ℤ, pos, negsuc}
use lib.ListN.{replicate}
use Rattle.texts.specs.Text.{bytes, decimal}
use Rattle.angles.specs.declared.Angle.{Angle}
use Rattle.angles.specs.declared.Angle.TheVariants.{Hundredths, Missing, NotAnAngle}
use Rattle.angles.specs.declared.Written.{Written}
use Rattle.angles.specs.Angles.{angle_of, shaped, magnitude, text_of, written_of, written_in_range}

abbrev read : List (List ℕ) → List Angle
read ts = map angle_of ts

-- all of one answer
abbrev each : Angle → List (List ℕ) → List Angle
each a ts = map (λ t. a) ts

abbrev naughts : List (List ℕ)
naughts = bytes "-0.00" ∷ bytes "+0.0" ∷ bytes "0.00" ∷ []

pub zero-read : read naughts ≡ each (Hundredths (pos 0)) naughts
unfolding angle_of shaped magnitude
zero-read = refl

-- one digit after the point means tenths
abbrev tenths : List (List ℕ)
tenths = bytes "1.5" ∷ bytes "+1.50" ∷ bytes "001.5" ∷ []

pub tenths-read : read tenths ≡ each (Hundredths (pos 150)) tenths
unfolding angle_of shaped magnitude
tenths-read = refl

pub hundredths-read : read (bytes "1.05" ∷ bytes "000.5" ∷ bytes "-0.05" ∷ []) ≡ Hundredths (pos 105) ∷ Hundredths (pos 50) ∷ Hundredths (negsuc 4) ∷ []
unfolding angle_of shaped magnitude
hundredths-read = refl

-- both ends belong
pub ends_read : read (bytes "180.00" ∷ bytes "+180.0" ∷ bytes "-180.00" ∷ bytes "-180.0" ∷ [])
    ≡ Hundredths (pos 18000) ∷ Hundredths (pos 18000) ∷ Hundredths (negsuc 17999) ∷ Hundredths (negsuc 17999) ∷ []
unfolding angle_of shaped magnitude
ends_read = refl

pub missing-read : angle_of (bytes "---") ≡ Missing
unfolding angle_of shaped magnitude
missing-read = refl

-- nothing before or after the hyphens
abbrev nearly-missing : List (List ℕ)
nearly-missing = bytes "+---" ∷ bytes "----" ∷ bytes "--" ∷ bytes "--- " ∷ bytes " ---" ∷ bytes "+--" ∷ (bytes "---" ++ (0 ∷ [])) ∷ []

pub nearly-missing-read : read nearly-missing ≡ each NotAnAngle nearly-missing
unfolding angle_of shaped magnitude
nearly-missing-read = refl

-- a sign, a point or digits that are not there
abbrev too-little : List (List ℕ)
too-little = [] ∷ bytes "-" ∷ bytes "+" ∷ bytes "." ∷ bytes ".5" ∷ bytes "-.5" ∷ bytes "5" ∷ bytes "5." ∷ bytes "-5." ∷ []

pub too-little-read : read too-little ≡ each NotAnAngle too-little
unfolding angle_of shaped magnitude
too-little-read = refl

-- too many digits, other bytes, another sign
abbrev too_much : List (List ℕ)
too_much =
    bytes "0001.0" ∷ bytes "1.005" ∷ bytes "1,0" ∷ bytes " 1.0" ∷ bytes "1.0 " ∷ bytes "--1.0" ∷ bytes "+-1.0" ∷ bytes "1.-5" ∷ bytes "1.5.0"
    ∷ (bytes "1.50" ++ (0 ∷ [])) ∷ []

pub too-much-read : read too_much ≡ each NotAnAngle too_much
unfolding angle_of shaped magnitude
too-much-read = refl

abbrev too_far : List (List ℕ)
too_far = bytes "180.01" ∷ bytes "-180.01" ∷ bytes "180.1" ∷ bytes "999.9" ∷ bytes "-999.99" ∷ []

pub too-far-read : read too_far ≡ each NotAnAngle too_far
unfolding angle_of shaped magnitude
too-far-read = refl

-- ---- written

abbrev of : ℕ → List ℕ → Written
of n bytes = record { bytes = bytes ++ replicate (7 - n) 0; length = n }

abbrev near : List ℤ
near = pos 0 ∷ pos 5 ∷ negsuc 4 ∷ negsuc 49 ∷ pos 999 ∷ pos 1000 ∷ pos 18000 ∷ negsuc 17999 ∷ []

abbrev texts : List Written
texts =
    of 4 (bytes "0.00") ∷ of 4 (bytes "0.05") ∷ of 5 (bytes "-0.05") ∷ of 5 (bytes "-0.50") ∷ of 4 (bytes "9.99") ∷ of 5 (bytes "10.00")
    ∷ of 6 (bytes "180.00") ∷ of 7 (bytes "-180.00") ∷ []

pub written : map written_of near ≡ texts
unfolding written_of text_of decimal
written = refl

pub some_written : map written_in_range near ≡ map Some texts
unfolding written_in_range written_of text_of decimal
some_written = refl

abbrev far : List ℤ
far = pos 18001 ∷ negsuc 18000 ∷ pos 2147483647 ∷ negsuc 2147483647 ∷ []

pub not_written : map written_of far ≡ map (λ v. of 0 []) far
unfolding written_of text_of decimal
not_written = refl

pub none_written : map written_in_range far ≡ map (λ v. None) far
unfolding written_in_range written_of text_of decimal
none_written = refl
