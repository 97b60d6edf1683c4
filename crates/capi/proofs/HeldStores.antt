-- A store in a caller's block: its calls are those on the block's store, or, where the block is none, on a store that counts 65, which 15 refuses; and
-- tables that stand one after another. Assumes nothing.
use Rattle.std.specs.Prelude.{Err}
use mathlib.Core.Path.{◌≡◌, refl, ap, ◌∙◌}
use mathlib.Core.Bool.{true, false, cond}
use mathlib.Core.Logic.{⊎_elim}
use mathlib.Core.List.{List, [], ◌∷◌}
use Prim.Native.Nat.{ℕ, suc, ◌/◌, ◌%◌, ◌<◌}
use native.Mathlib.Omega.{arith}
use lib.ListN.{get_or, replicate}
use Rattle.std.proofs.lemmas.Bool.{cases_Bool}
use Rattle.lists.proofs.Elements.{get_or-tab0}
use Rattle.refusals.specs.declared.Refusal.TheVariants.{Store}
use Rattle.classes.specs.Classes.{Class}
use Rattle.mask_store.specs.declared.MaskStore.{MaskStore}
use Rattle.mask_store.specs.Layout.{table_count, table_size, store_size, most_masks, entry_place}
use Rattle.mask_store.specs.Masks.{store_of, allowed, takes, add, render}
use Rattle.capi.specs.Stores.{is_store, store_in, add_to, flat_at, flat, rendered}

-- ---- the store that stands for a block that is none

abbrev pub none : MaskStore
none = store_of (replicate store_size 0) (suc most_masks)

pub none-takes : (cs : List Class) → takes none cs ≡ false
unfolding takes allowed
none-takes cs = refl

none-renders : render none ≡ Err Store
unfolding render allowed
none-renders = refl

-- by whether a block is a store
pub by-store : {A : Type 0} (tables : List ℕ) → (is_store tables ≡ true → A) → (is_store tables ≡ false → A) → A
by-store tables f g = ⊎_elim f g (cases_Bool (is_store tables))

-- what `keep` leaves of a block and its count, where a call leaves this store
abbrev pub kept : List ℕ → ℕ → MaskStore → MaskStore
kept tables count s = record { tables = cond (is_store tables) s.tables tables; count = cond (is_store tables) s.count count }

-- ---- `add_test_to_lut`

pub add-held : (tables : List ℕ) (count : ℕ) (class : Class)
    → record { answer = (add (store_in tables count) class).answer; store = kept tables count (add (store_in tables count) class).store } ≡ add_to tables count class
unfolding add_to store_in add
add-held tables count class = by-store tables (λ q. rw q) (λ q. rw (q, none-takes (class ∷ [])))

-- ---- `render_luts`

pub render-held : (tables : List ℕ) (count : ℕ) → render (store_in tables count) ≡ rendered tables count
unfolding store_in rendered
render-held tables count = by-store tables (λ q. rw q) (λ q. rw (q, none-renders))

-- ---- tables one after another

-- entry b of table t stands at 256 t + b
pub flat-entry : (luts : List (List ℕ)) (t b : ℕ) → t < table_count → b < table_size → get_or (flat luts) (entry_place t b) 0 ≡ get_or (get_or luts t []) b 0
unfolding flat
flat-entry luts t b ht hb =
    let at : entry_place t b < store_size = omega arith in
    let row : entry_place t b / table_size ≡ t = omega arith in
    let place : entry_place t b % table_size ≡ b = omega arith in
    get_or-tab0 store_size (flat_at luts) (entry_place t b) 0 at
    ∙ ap (λ (i : ℕ). get_or (get_or luts i []) (entry_place t b % table_size) 0) row
    ∙ ap (λ (i : ℕ). get_or (get_or luts t []) i 0) place
