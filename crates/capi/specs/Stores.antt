-- A mask store that a caller holds as a block, its eight tables of 256 bytes one after another, and a count. Definitions only.
use Rattle.std.specs.Prelude.{Bool, cond, List, [], ℕ, ◌/◌, ◌%◌, eqb, length, get_or, replicate, Ok, Err}
use Rattle.lists.specs.Lists.{tab}
use Rattle.refusals.specs.Refusals.{number}
use Rattle.refusals.specs.declared.Refusal.TheVariants.{Store}
use Rattle.classes.specs.Classes.{Class}
use Rattle.mask_store.specs.declared.MaskStore.{MaskStore}
use Rattle.mask_store.specs.declared.Added.{Added}
use Rattle.mask_store.specs.Masks.{store_of, refused_with, add, Rendered, render}
use Rattle.capi.specs.Lent.{Put, put}

-- a block of another length is no store, and gets 15
abbrev pub is_store : List ℕ → Bool
is_store tables = eqb (length tables) 2048

-- the store of a block; one that 15 refuses, since it counts over 64, for a block that is none
unfoldable pub store_in : List ℕ → ℕ → MaskStore
store_in tables count = cond (is_store tables) (store_of tables count) (store_of (replicate 2048 0) 65)

-- ---- `add_test_to_lut`

unfoldable pub add_to : List ℕ → ℕ → Class → Added
add_to tables count class = cond (is_store tables) (add (store_of tables count) class) (refused_with (store_of tables count))

-- ---- `render_luts`

-- eight tables one after another: byte i is entry i mod 256 of table i / 256
abbrev pub flat_at : List (List ℕ) → ℕ → ℕ
flat_at luts i = get_or (get_or luts (i / 256) []) (i % 256) 0

unfoldable pub flat : List (List ℕ) → List ℕ
flat luts = tab 0 2048 (flat_at luts)

unfoldable pub rendered : List ℕ → ℕ → Rendered
rendered tables count = cond (is_store tables) (render (store_of tables count)) (Err Store)

-- the tables are handed out in a block
abbrev pub handed : Rendered → List ℕ → Put
handed (Ok luts) block = put (flat luts) block
handed (Err refusal) block = record { refusal = number refusal; block = block }

unfoldable pub render_to : List ℕ → ℕ → List ℕ → Put
render_to tables count block = handed (rendered tables count) block
