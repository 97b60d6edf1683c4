-- The rendered tables: entry by entry, and bit by bit. Assumes nothing.
use Rattle.std.specs.Prelude.{Ok, Err}
use mathlib.Core.Path.{◌≡◌, sym, ap, ◌∙◌}
use mathlib.Core.Bool.{true, false, cond}
use mathlib.Core.List.{List, [], map}
use Prim.Native.Nat.{ℕ, ◌%◌, ◌^◌, ◌≤◌, ◌<◌, ◌*◌, ◌+◌}
use native.Mathlib.Nat.{zero-mod}
use native.Mathlib.Omega.{arith}
use borrow.Author.Tests.{ltb-true, ltb-false}
use lib.Dec.{ltb}
use lib.ListN.{length, get_or, drop, length-map, length-drop, get_or-map}
use lib.Seq.{length-take-le}
use Rattle.lists.proofs.Elements.{length-tab, get_or-tab0}
use Rattle.lists.proofs.Bools.{Is, yes-is, no-is, is}
use Rattle.lists.proofs.Grid.{entry, Shape, grid-ext}
use Rattle.classes.specs.Classes.{has}
use Rattle.refusals.specs.declared.Refusal.TheVariants.{Store}
use Rattle.mask_store.specs.declared.MaskStore.{MaskStore}
use Rattle.bits.specs.Bits.{bit}
use Rattle.mask_store.specs.Layout.{table_count, table_size, table_masks, store_size, mask_of, table_place, entry_place}
use Rattle.mask_store.specs.Masks.{table_at, class_at, used_in, luts, allowed, render}
use Rattle.bits.proofs.Bits.{bit-mod-below, bit-mod-above}
use Rattle.mask_store.proofs.MaskLaws.{table-at, table-bit}

module _ (s : MaskStore) where
  -- table t, with the bits of its masks that are not held cut off
  cut : ℕ → ℕ → ℕ
  cut t w = w % 2 ^ used_in s.count t

  lut : (t : ℕ) → t < table_count → get_or (luts s) t [] ≡ map (cut t) (table_at s.tables t)
  unfolding luts cut
  lut t h = get_or-tab0 table_count (λ t. map (λ w. w % 2 ^ used_in s.count t) (table_at s.tables t)) t [] h

  -- entry b of table t
  lut-at : (t b : ℕ) → t < table_count → get_or (get_or (luts s) t []) b 0 ≡ cut t (get_or (table_at s.tables t) b 0)
  unfolding cut
  lut-at t b h =
      ap (λ (l : List ℕ). get_or l b 0) (lut t h)
      ∙ ap (get_or (map (cut t) (table_at s.tables t)) b) (sym (zero-mod (2 ^ used_in s.count t)))
      ∙ get_or-map (cut t) (table_at s.tables t) b 0

  -- bit k of byte b of table t is the store's where mask 8 t + k is held, and 0 where it is not
  pub luts-bit : (t b k : ℕ) → t < table_count → k < table_masks → bit (get_or (get_or (luts s) t []) b 0) k ≡ cond (ltb (mask_of t k) s.count) (bit (get_or (table_at s.tables t) b 0) k) 0
  unfolding cut
  luts-bit t b k ht hk = ap (λ (n : ℕ). bit n k) (lut-at t b ht) ∙ go (is (ltb (mask_of t k) s.count))
    where
      word : ℕ
      word = get_or (table_at s.tables t) b 0

      go : Is (ltb (mask_of t k) s.count) → bit (word % 2 ^ used_in s.count t) k ≡ cond (ltb (mask_of t k) s.count) (bit word k) 0
      go (yes-is q) = let h : mask_of t k < s.count = ltb-true _ _ q in rw q (bit-mod-below word (used_in s.count t) k (omega arith))
      go (no-is q) = let h : s.count ≤ mask_of t k = ltb-false _ _ q in rw q (bit-mod-above word (used_in s.count t) k (omega arith))

  -- that is: the flag of the class that is held as mask 8 t + k, and 0 where none is
  pub luts-flag : (t b k : ℕ) → t < 8 → b < 256 → k < 8 → bit (get_or (get_or (luts s) t []) b 0) k ≡ cond (ltb (8 * t + k) s.count) (cond (has (class_at s.tables (8 * t + k)) b) 1 0) 0
  luts-flag t b k ht hb hk = luts-bit t b k ht hk ∙ ap (λ (n : ℕ). cond (ltb (mask_of t k) s.count) n 0) (table-bit s.tables t b k hb hk)

  -- ---- as a loop fills them

  module _ (size : length s.tables ≡ store_size) where
    table-size : (t : ℕ) → t < table_count → length (table_at s.tables t) ≡ table_size
    unfolding table_at
    table-size t h = length-take-le table_size (drop (table_place t) s.tables) (omega (arith, length-drop (table_place t) s.tables))

    luts-shape : Shape table_count table_size (luts s)
    unfolding luts
    luts-shape = record {
      rows = length-tab 0 table_count (λ t. map (λ w. w % 2 ^ used_in s.count t) (table_at s.tables t));
      wide = λ t h. ap length (lut t h) ∙ length-map (table_at s.tables t) (cut t) ∙ table-size t h;
    }

    pub luts-are : (out : List (List ℕ)) → Shape table_count table_size out → ((t b : ℕ) → t < table_count → b < table_size → entry out t b 0 ≡ get_or s.tables (entry_place t b) 0 % 2 ^ used_in s.count t) → out ≡ luts s
    unfolding cut
    luts-are out shape each =
        grid-ext 0 shape luts-shape (λ t b ht hb. each t b ht hb ∙ ap (cut t) (sym (table-at s.tables t b hb)) ∙ sym (lut-at t b ht))

  -- ---- the call

  pub render-allowed : allowed s ≡ true → render s ≡ Ok (luts s)
  unfolding render
  render-allowed a = rw a

  pub render-not : allowed s ≡ false → render s ≡ Err Store
  unfolding render
  render-not n = rw n
