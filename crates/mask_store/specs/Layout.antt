-- Sizes and places in the tables of a mask store: each number of the layout stands here, once. Definitions only.
use Rattle.std.specs.Prelude.{ℕ, ◌+◌, ◌*◌, ◌/◌, ◌%◌}

abbrev pub table_count : ℕ
table_count = 8

-- a table has an entry for each byte
abbrev pub table_size : ℕ
table_size = 256

-- an entry has a bit for each mask of its table
abbrev pub table_masks : ℕ
table_masks = 8

-- the entries of all tables
abbrev pub store_size : ℕ
store_size = table_count * table_size

abbrev pub most_masks : ℕ
most_masks = table_count * table_masks

-- ---- "mask i is bit i mod 8 of table i / 8"

abbrev pub mask_table : ℕ → ℕ
mask_table i = i / table_masks

abbrev pub mask_bit : ℕ → ℕ
mask_bit i = i % table_masks

-- the mask that is bit k of table t
abbrev pub mask_of : ℕ → ℕ → ℕ
mask_of t k = table_masks * t + k

-- where table t begins, and where its entry b stands: the tables follow one another
abbrev pub table_place : ℕ → ℕ
table_place t = table_size * t

abbrev pub entry_place : ℕ → ℕ → ℕ
entry_place t b = table_place t + b
