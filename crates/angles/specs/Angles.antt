-- Angles in hundredths of a degree: which angle a text is, and the text of an angle. All of a text counts; nothing is trimmed. Definitions only; what a
-- text that is an angle looks like is said again in Meaning.antt, without taking texts apart.
use Rattle.std.specs.Prelude.{Bool, true, false, ◌&&◌, ◌||◌, cond, Option, Some, None, List, [], ◌∷◌, ◌++◌, ℕ, suc, ◌+◌, ◌-◌, ◌*◌, ◌/◌, ◌%◌, ◌^◌, eqb, leb, ℤ, pos, neg_ℤ, nat_abs, length, get_or, drop, replicate}
use Rattle.std.specs.Int.Signed.{lt_z}
use Rattle.lists.specs.Lists.{all_l, eq_list}
use Rattle.texts.specs.Text.{digit_byte, bytes, one, decimal}
use Rattle.angles.specs.declared.Angle.{Angle}
use Rattle.angles.specs.declared.Angle.TheVariants.{Hundredths, Missing, NotAnAngle}
use Rattle.angles.specs.declared.Written.{Written}

-- angles go from -180.00 to 180.00, both ends included
abbrev pub limit : ℕ
limit = 18000

-- ---- reading

abbrev pub plus_byte : ℕ
plus_byte = 43

abbrev pub hyphen_byte : ℕ
hyphen_byte = 45

abbrev pub point_byte : ℕ
point_byte = 46

abbrev pub is_digit : ℕ → Bool
is_digit b = leb (digit_byte 0) b && leb b (digit_byte 9)

-- decimal digits as a number, each by its place
abbrev pub number : List ℕ → ℕ
number [] = 0
number (d ∷ ds) = (d - digit_byte 0) * 10 ^ length ds + number ds

-- an optional plus or hyphen
abbrev pub is_sign : ℕ → Bool
is_sign b = eqb b plus_byte || eqb b hyphen_byte

abbrev pub is_hyphen : ℕ → Bool
is_hyphen b = eqb b hyphen_byte

abbrev pub sign_size : List ℕ → ℕ
sign_size t = cond (is_sign (get_or t 0 0)) 1 0

-- what follows it
abbrev pub body : List ℕ → List ℕ
body t = drop (sign_size t) t

-- the digits in front of a body
abbrev pub whole : List ℕ → List ℕ
whole [] = []
whole (b ∷ t) = elim (is_digit b) [ true ↦ b ∷ whole t | false ↦ [] ]

-- what follows the byte after them
abbrev pub fraction : List ℕ → List ℕ
fraction b = drop (suc (length (whole b))) b

-- one to three digits, a point, and one or two digits
unfoldable pub shaped : List ℕ → Bool
shaped b =
    (leb 1 (length (whole b)) && leb (length (whole b)) 3)
    && (eqb (get_or b (length (whole b)) 0) point_byte
    && ((leb 1 (length (fraction b)) && leb (length (fraction b)) 2) && all_l is_digit (fraction b)))

-- hundredths that the digits after the point mean: one digit means tenths
abbrev pub parts : List ℕ → ℕ
parts f = 10 ^ (2 - length f) * number f

unfoldable pub magnitude : List ℕ → ℕ
magnitude b = 100 * number (whole b) + parts (fraction b)

-- a hyphen turns the number about, and 0 stays 0
abbrev pub signed : Bool → ℕ → ℤ
signed below m = cond below (neg_ℤ (pos m)) (pos m)

abbrev pub hyphens : List ℕ
hyphens = bytes "---"

unfoldable pub angle_of : List ℕ → Angle
angle_of t =
    cond (eq_list eqb t hyphens)
    Missing
    (cond (shaped (body t) && leb (magnitude (body t)) limit) (Hundredths (signed (is_hyphen (get_or t 0 0)) (magnitude (body t)))) NotAnAngle)

-- ---- writing

abbrev pub hyphen : Bool → List ℕ
hyphen below = cond below (one hyphen_byte) []

-- a hyphen only below 0, the degrees without needless zeros, a point, two digits
unfoldable pub text_of : Bool → ℕ → List ℕ
text_of below m = hyphen below ++ (decimal (m / 100) ++ (point_byte ∷ digit_byte (m / 10 % 10) ∷ digit_byte (m % 10) ∷ []))

-- seven bytes, zeros after the text, and its length
abbrev pub padded : List ℕ → Written
padded t = record { bytes = t ++ replicate (7 - length t) 0; length = length t }

-- a value out of range has no text
unfoldable pub written_of : ℤ → Written
written_of v = cond (leb (nat_abs v) limit) (padded (text_of (lt_z v (pos 0)) (nat_abs v))) (padded [])

-- the same as an option: there is a text, or none
unfoldable pub written_in_range : ℤ → Option Written
written_in_range v = cond (leb (nat_abs v) limit) (Some (written_of v)) None
