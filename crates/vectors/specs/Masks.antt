-- The tables of a mask store, as a list holds them: the classes of masks 0, 1, .., 32 bytes each, and a byte that fills the bits of all other masks.
-- Definitions only.
use Rattle.std.specs.Prelude.{Bool, cond, List, ℕ, zero, suc, ◌+◌, ◌*◌, ◌/◌, ◌%◌, ltb, length}
use Rattle.lists.specs.Lists.{tab}
use Rattle.bits.specs.Bits.{is_set, with_bit}
use Rattle.vectors.specs.Reading.{bit_at}

-- whether mask i has byte b
unfoldable pub mask_has : ℕ → List ℕ → ℕ → ℕ → Bool
mask_has fill classes i b = cond (ltb (32 * i) (length classes)) (bit_at classes (32 * i) b) (is_set (i % 8) fill)

-- an entry's bits of the masks before mask i + k, and that of mask i + k
unfoldable pub with_mask : ℕ → List ℕ → ℕ → ℕ → ℕ → ℕ → ℕ
with_mask fill classes i b k bits = with_bit k bits (mask_has fill classes (i + k) b)

-- the bits of the k masks from i on, at byte b
abbrev pub masked : ℕ → List ℕ → ℕ → ℕ → ℕ → ℕ
masked fill classes i b zero = 0
masked fill classes i b (suc k) = with_mask fill classes i b k (masked fill classes i b k)

-- the eight tables: entry b of table t has the bits of masks 8 t to 8 t + 7
unfoldable pub tables : ℕ → List ℕ → List ℕ
tables fill classes = tab 0 2048 (λ j. masked fill classes (8 * (j / 256)) (j % 256) 8)
