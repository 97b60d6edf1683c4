-- Numbers in a list of bytes, low byte first; past the end all bytes are 0. Definitions only.
use Rattle.std.specs.Prelude.{Bool, cond, List, [], ℕ, ◌+◌, ◌*◌, ◌/◌, ◌%◌, leb, length, get_or, take, drop}
use Rattle.lists.specs.Lists.{tab}
use Rattle.bits.specs.Bits.{is_set}

abbrev pub byte_at : List ℕ → ℕ → ℕ
byte_at list at = get_or list at 0

abbrev pub half_at : List ℕ → ℕ → ℕ
half_at list at = byte_at list at + 256 * byte_at list (at + 1)

abbrev pub word_at : List ℕ → ℕ → ℕ
word_at list at = half_at list at + 65536 * half_at list (at + 2)

-- bit i from a place on
abbrev pub bit_at : List ℕ → ℕ → ℕ → Bool
bit_at list at i = is_set (i % 8) (byte_at list (at + i / 8))

-- the flags of a class, 32 bytes
abbrev pub flags_at : List ℕ → ℕ → List Bool
flags_at list at = tab 0 256 (bit_at list at)

-- the n elements at a place, if the list has them
abbrev pub part_at : {A : Type 0} → List A → ℕ → ℕ → List A
part_at list at n = cond (leb (at + n) (length list)) (take n (drop at list)) []
