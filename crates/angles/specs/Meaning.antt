-- A text that shows an angle, put together of its parts: `angle_of` answers a number exactly if this holds (proofs/Means.antt), so that nobody has to
-- believe how it takes a text apart. And the form of what `written_of` gives of a value in range (proofs/Form.antt). Definitions only.
use Rattle.std.specs.Prelude.{◌≡◌, Bool, true, false, not, List, [], ◌∷◌, ◌++◌, ℕ, ◌+◌, ◌-◌, ◌*◌, ◌≤◌, eqb, ℤ, pos, length, get_or, drop, replicate}
use Rattle.std.specs.Int.Signed.{lt_z}
use Rattle.lists.specs.Lists.{all_l}
use Rattle.texts.specs.Text.{digit_byte}
use Rattle.angles.specs.declared.Written.{Written}
use Rattle.angles.specs.Angles.{plus_byte, hyphen_byte, point_byte, limit, is_digit, is_hyphen, number, body, parts, signed}

-- none, a plus, or a hyphen, which alone means below 0
pub data Sign : Type 0 where
  none plus hyphen : Sign

abbrev pub sign_text : Sign → List ℕ
sign_text none = []
sign_text plus = plus_byte ∷ []
sign_text hyphen = hyphen_byte ∷ []

abbrev pub is_below : Sign → Bool
is_below none = false
is_below plus = false
is_below hyphen = true

-- an optional sign, one to three digits, a point, one or two digits; from -180.00 to 180.00
pub record Shows (text : List ℕ) (hundredths : ℤ) : Type 0 where
  pub sign : Sign
  pub whole : List ℕ
  pub fraction : List ℕ
  pub is : text ≡ sign_text sign ++ (whole ++ (point_byte ∷ fraction))
  pub digits : (all_l is_digit whole ≡ true) × (all_l is_digit fraction ≡ true)
  pub few : (1 ≤ length whole) × (length whole ≤ 3)
  pub fewer : (1 ≤ length fraction) × (length fraction ≤ 2)
  pub near : 100 * number whole + parts fraction ≤ limit
  pub value : hundredths ≡ signed (is_below sign) (100 * number whole + parts fraction)

abbrev pub no_plus : ℕ → Bool
no_plus b = not (eqb b plus_byte)

-- seven bytes: a text of four to seven, and zeros. A hyphen stands in front exactly if the value is below 0; a first digit 0 is the only one before the
-- point; two digits follow it.
pub record Form (hundredths : ℤ) (written : Written) : Type 0 where
  pub seven : length written.bytes ≡ 7
  pub least : 4 ≤ written.length
  pub most : written.length ≤ 7
  pub zeros : drop written.length written.bytes ≡ replicate (7 - written.length) 0
  pub below : is_hyphen (get_or written.bytes 0 0) ≡ lt_z hundredths (pos 0)
  pub plusless : all_l no_plus written.bytes ≡ true
  pub short : get_or (body written.bytes) 0 0 ≡ digit_byte 0 → get_or (body written.bytes) 1 0 ≡ point_byte
  pub point : get_or written.bytes (written.length - 3) 0 ≡ point_byte
