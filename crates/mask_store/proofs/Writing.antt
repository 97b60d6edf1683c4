-- A class written byte by byte: what a loop over the flags needs. Assumes nothing.
use mathlib.Core.Path.{◌≡◌, refl, sym, ap, ◌∙◌}
use mathlib.Core.Bool.{Bool, false}
use mathlib.Core.List.{List, [], ◌∷◌, ◌++◌}
use Prim.Native.Nat.{ℕ, zero, suc, ◌+◌, ◌<◌}
use native.Mathlib.Nat.{not-suc-le-zero, le_of_suc-le-suc, zero-add, suc-add}
use native.Mathlib.Omega.{arith}
use lib.ListN.{length, get_or, take, drop, set, take-append-drop, get_or-append}
use lib.Seq.{set-append_left, get_or-append-add, drop-drop}
use Rattle.classes.specs.Classes.{Class, has}
use Rattle.bits.specs.Bits.{with_bit}
use Rattle.mask_store.specs.Layout.{table_size, store_size, most_masks, mask_table, mask_bit, table_place}
use Rattle.mask_store.specs.Masks.{table_at, with_bits, written}
use Rattle.mask_store.proofs.MaskLaws.{table-at, table-length, front_length, middle-length}

set-append-add : (xs ys : List ℕ) (n a : ℕ) → set (xs ++ ys) (length xs + n) a ≡ xs ++ set ys n a
set-append-add [] ys n a = ap (λ (k : ℕ). set ys k a) (zero-add n)
set-append-add (x ∷ xs) ys n a =
    ap (λ (k : ℕ). set (x ∷ (xs ++ ys)) k a) (suc-add (length xs) n) ∙ ap (λ (l : List ℕ). x ∷ l) (set-append-add xs ys n a)

with_none : (k : ℕ) (ws : List ℕ) → with_bits k ws [] ≡ ws
with_none k [] = refl
with_none k (w ∷ ws) = refl

with-step : (k : ℕ) (ws : List ℕ) (c : List Bool) (b : ℕ) → b < length ws → b < length c
    → with_bits k ws (take (suc b) c) ≡ set (with_bits k ws (take b c)) b (with_bit k (get_or ws b 0) (get_or c b false))
with-step k [] c b h l = absurd (not-suc-le-zero h)
with-step k (w ∷ ws) [] b h l = absurd (not-suc-le-zero l)
with-step k (w ∷ ws) (x ∷ c) zero h l = ap (λ (r : List ℕ). with_bit k w x ∷ r) (with_none k ws)
with-step k (w ∷ ws) (x ∷ c) (suc b) h l = ap (λ (r : List ℕ). with_bit k w x ∷ r) (with-step k ws c b (le_of_suc-le-suc h) (le_of_suc-le-suc l))

with-ahead : (k : ℕ) (ws : List ℕ) (c : List Bool) (b : ℕ) → b < length ws → b < length c → get_or (with_bits k ws (take b c)) b 0 ≡ get_or ws b 0
with-ahead k [] c b h l = absurd (not-suc-le-zero h)
with-ahead k (w ∷ ws) [] b h l = absurd (not-suc-le-zero l)
with-ahead k (w ∷ ws) (x ∷ c) zero h l = refl
with-ahead k (w ∷ ws) (x ∷ c) (suc b) h l = with-ahead k ws c b (le_of_suc-le-suc h) (le_of_suc-le-suc l)

-- no flag: nothing is written
pub written_none : (tables : List ℕ) (i : ℕ) → written tables i [] ≡ tables
unfolding written table_at
written_none tables i =
    let at : ℕ = table_place (mask_table i) in
    ap (λ (l : List ℕ). take at tables ++ (l ++ drop (at + table_size) tables)) (with_none (mask_bit i) (take table_size (drop at tables)))
    ∙ ap (λ (l : List ℕ). take at tables ++ (take table_size (drop at tables) ++ l)) (sym (drop-drop table_size at tables))
    ∙ ap (λ (l : List ℕ). take at tables ++ l) (take-append-drop table_size (drop at tables))
    ∙ take-append-drop at tables

module _ (tables : List ℕ) (i : ℕ) (c : Class) (size : length tables ≡ store_size) (room : i < most_masks) (b : ℕ) (byte : b < 256) (wide : length c ≡ 256) where
  abbrev at : ℕ
  at = table_place (mask_table i)

  abbrev front : List ℕ
  front = take at tables

  abbrev middle : List ℕ
  middle = with_bits (mask_bit i) (table_at tables (mask_table i)) (take b c)

  abbrev back : List ℕ
  back = drop (at + table_size) tables

  in_table : b < length (table_at tables (mask_table i))
  in_table = omega (arith, table-length tables i (take b c) size room)

  in-class : b < length c
  in-class = omega arith

  place : length front + b ≡ at + b
  place = omega (arith, front_length tables i (take b c) size room)

  -- the next byte is still unchanged
  pub written-ahead : get_or (written tables i (take b c)) (at + b) 0 ≡ get_or tables (at + b) 0
  unfolding written
  written-ahead =
      ap (λ (n : ℕ). get_or (front ++ (middle ++ back)) n 0) (sym place)
      ∙ get_or-append-add front (middle ++ back) b 0
      ∙ get_or-append middle back 0 b (omega (arith, middle-length tables i (take b c) size room))
      ∙ with-ahead (mask_bit i) (table_at tables (mask_table i)) c b in_table in-class
      ∙ table-at tables (mask_table i) b byte

  -- and one flag more writes its bit
  pub written_step : written tables i (take (suc b) c) ≡ set (written tables i (take b c)) (at + b) (with_bit (mask_bit i) (get_or tables (at + b) 0) (has c b))
  unfolding written
  written_step =
      ap (λ (l : List ℕ). front ++ (l ++ back)) (with-step (mask_bit i) (table_at tables (mask_table i)) c b in_table in-class)
      ∙ ap (λ (w : ℕ). front ++ (set middle b (with_bit (mask_bit i) w (has c b)) ++ back)) (table-at tables (mask_table i) b byte)
      ∙ ap (λ (l : List ℕ). front ++ l) (sym (set-append_left middle back b v (omega (arith, middle-length tables i (take b c) size room))))
      ∙ sym (set-append-add front (middle ++ back) b v)
      ∙ ap (λ (n : ℕ). set (front ++ (middle ++ back)) n v) place
    where
      v : ℕ
      v = with_bit (mask_bit i) (get_or tables (at + b) 0) (has c b)
