-- A bit matrix of a row a state, with a bit for each state. Definitions only.
use Rattle.std.specs.Prelude.{Bool, List, ℕ, ◌+◌, ◌*◌, ◌/◌, ◌%◌, get_or}
use Rattle.bits.specs.Bits.{is_set}

-- the bytes of a row, and of all
abbrev pub matrix_row : ℕ
matrix_row = 128

abbrev pub matrix_size : ℕ
matrix_size = 131072

-- the byte with bit p of row t
abbrev pub byte_of : ℕ → ℕ → ℕ
byte_of t p = matrix_row * t + p / 8

unfoldable pub bit_at : List ℕ → ℕ → ℕ → Bool
bit_at m t p = is_set (p % 8) (get_or m (byte_of t p) 0)
