-- What a store holds: class by class, bit by bit, and after an addition. Assumes nothing.
use mathlib.Core.Path.{◌≡◌, refl, sym, ap, ◌∙◌}
use mathlib.Core.Bool.{Bool, false, cond}
use mathlib.Core.List.{List, [], ◌∷◌, ◌++◌, map, append_assoc}
use Prim.Native.Nat.{ℕ, zero, suc, ◌+◌, ◌-◌, ◌≤◌, ◌<◌}
use native.Mathlib.Nat.{not-suc-le-zero, le_of_suc-le-suc}
use native.Mathlib.Omega.{arith}
use borrow.Author.Tests.{eqb-true, eqb-false, eq-eqb, ne_eqb}
use lib.Dec.{eqb}
use lib.ListN.{length, get_or, take, drop, length-append, length-drop, take-append-drop, get_or-map}
use lib.Seq.{drop-append-le, take-append-le, take_at, drop_at, drop-drop, get_or-take, get_or-drop, length-take-le}
use Rattle.lists.proofs.Elements.{length-tab, get_or-tab}
use Rattle.lists.proofs.Bools.{Is, yes-is, no-is, is, Order, less, more, order, equal}
use Rattle.classes.specs.Classes.{Class, has}
use Rattle.mask_store.specs.declared.MaskStore.{MaskStore}
use Rattle.bits.specs.Bits.{bit, is_set, with_bit}
use Rattle.mask_store.specs.Layout.{table_size, table_masks, store_size, most_masks, mask_table, mask_bit, mask_of, table_place, entry_place}
use Rattle.mask_store.specs.Masks.{table_at, mask_has, class_at, held, held_with, number_of, met, with_bits, written}
use Rattle.bits.proofs.Bits.{bit-zero, bit-flag, bit-own, bit-other, set_own, set_other}
use Rattle.mask_store.proofs.Numbers.{met-front, number_at}

-- ---- byte membership equals the set bit, for every mask and every byte

pub table-at : (tables : List ℕ) (t b : ℕ) → b < table_size → get_or (table_at tables t) b 0 ≡ get_or tables (entry_place t b) 0
unfolding table_at
table-at tables t b h = get_or-take table_size (drop (table_place t) tables) b 0 h ∙ get_or-drop (table_place t) tables b 0

unset-zero : (k : ℕ) → is_set k 0 ≡ false
unset-zero k = ap (λ (n : ℕ). eqb n 1) (bit-zero k)

pub mask-class : (tables : List ℕ) (i b : ℕ) → b < 256 → mask_has tables i b ≡ has (class_at tables i) b
unfolding mask_has class_at
mask-class tables i b h =
    ap (is_set (mask_bit i)) (sym (table-at tables (mask_table i) b h))
    ∙ sym (get_or-map (is_set (mask_bit i)) (table_at tables (mask_table i)) b 0)
    ∙ ap (get_or (map (is_set (mask_bit i)) (table_at tables (mask_table i))) b) (unset-zero (mask_bit i))

-- bit k of byte b of table t is the flag of mask 8 t + k
pub table-bit : (tables : List ℕ) (t b k : ℕ) → b < table_size → k < table_masks → bit (get_or (table_at tables t) b 0) k ≡ cond (has (class_at tables (mask_of t k)) b) 1 0
unfolding mask_has
table-bit tables t b k hb hk =
    let et : t ≡ mask_table (mask_of t k) = omega arith in
    let ek : k ≡ mask_bit (mask_of t k) = omega arith in
    let same : is_set k (get_or (table_at tables t) b 0) ≡ mask_has tables (mask_of t k) b =
    ap (is_set k) (table-at tables t b hb)
    ∙ ap (λ (i : ℕ). is_set k (get_or tables (entry_place i b) 0)) et
    ∙ ap (λ (j : ℕ). is_set j (get_or tables (entry_place (mask_table (mask_of t k)) b) 0)) ek in
    bit-flag (get_or (table_at tables t) b 0) k ∙ ap (λ (x : Bool). cond x 1 0) (same ∙ mask-class tables (mask_of t k) b hb)

pub length-held : (s : MaskStore) → length (held s) ≡ s.count
unfolding held
length-held s = length-tab 0 s.count (class_at s.tables)

pub held_at : (s : MaskStore) (i : ℕ) → i < s.count → get_or (held s) i [] ≡ class_at s.tables i
unfolding held
held_at s i h = get_or-tab 0 s.count (class_at s.tables) i [] h ∙ ap (class_at s.tables) (omega arith)

-- a class whose number, once all are met, is below the count, is held under that number
pub held_number : (s : MaskStore) (cs : List Class) (c : Class) → number_of (held_with s cs) c < s.count → class_at s.tables (number_of (held_with s cs) c) ≡ c
unfolding held_with
held_number s cs c h =
    let w = length-held s in
    let e : number_of (held s) c ≡ number_of (met (held s) cs) c = met-front (held s) cs c (omega arith) in
    sym (held_at s (number_of (met (held s) cs) c) h)
    ∙ ap (λ (i : ℕ). get_or (held s) i []) (sym e)
    ∙ number_at (held s) c (omega arith)

-- ---- one class written

length-with : (k : ℕ) (ws : List ℕ) (c : List Bool) → length (with_bits k ws c) ≡ length ws
length-with k [] c = refl
length-with k (w ∷ ws) [] = refl
length-with k (w ∷ ws) (x ∷ c) = ap suc (length-with k ws c)

own_bits : (k : ℕ) (ws : List ℕ) (c : List Bool) → length ws ≡ length c → map (is_set k) (with_bits k ws c) ≡ c
own_bits k [] [] e = refl
own_bits k [] (x ∷ c) e = absurd (omega arith)
own_bits k (w ∷ ws) [] e = absurd (omega arith)
own_bits k (w ∷ ws) (x ∷ c) e =
    let a : is_set k (with_bit k w x) ≡ x = set_own k w x in
    let b : map (is_set k) (with_bits k ws c) ≡ c = own_bits k ws c (omega arith) in
    cc

other-bits : (k j : ℕ) (ws : List ℕ) (c : List Bool) → (j ≡ k → ⊥) → map (is_set j) (with_bits k ws c) ≡ map (is_set j) ws
other-bits k j [] c n = refl
other-bits k j (w ∷ ws) [] n = refl
other-bits k j (w ∷ ws) (x ∷ c) n =
    let a : is_set j (with_bit k w x) ≡ is_set j w = set_other k w x j n in
    let b : map (is_set j) (with_bits k ws c) ≡ map (is_set j) ws = other-bits k j ws c n in
    cc

with_at : (k : ℕ) (ws : List ℕ) (c : List Bool) (b : ℕ) → b < length ws → b < length c → get_or (with_bits k ws c) b 0 ≡ with_bit k (get_or ws b 0) (get_or c b false)
with_at k [] c b h l = absurd (not-suc-le-zero h)
with_at k (w ∷ ws) [] b h l = absurd (not-suc-le-zero l)
with_at k (w ∷ ws) (x ∷ c) zero h l = refl
with_at k (w ∷ ws) (x ∷ c) (suc b) h l = with_at k ws c b (le_of_suc-le-suc h) (le_of_suc-le-suc l)

-- a part that lies in the first of two lists
front-part : (t : ℕ) (front rest other : List ℕ) → table_place t + table_size ≤ length front → table_at (front ++ rest) t ≡ table_at (front ++ other) t
unfolding table_at
front-part t front rest other h =
    let l : table_size ≤ length (drop (table_place t) front) = omega (arith, length-drop (table_place t) front) in
    let a : table_place t ≤ length front = omega arith in
    ap (take table_size) (drop-append-le (table_place t) front rest a) ∙ take-append-le table_size (drop (table_place t) front) rest l
    ∙ sym (ap (take table_size) (drop-append-le (table_place t) front other a) ∙ take-append-le table_size (drop (table_place t) front) other l)

module _ (tables : List ℕ) (i : ℕ) (c : Class) (size : length tables ≡ store_size) (room : i < most_masks) where
  abbrev at : ℕ
  at = table_place (mask_table i)

  abbrev front : List ℕ
  front = take at tables

  abbrev middle : List ℕ
  middle = with_bits (mask_bit i) (table_at tables (mask_table i)) c

  abbrev back : List ℕ
  back = drop (at + table_size) tables

  pub front_length : length front ≡ at
  front_length = length-take-le at tables (omega arith)

  pub table-length : length (table_at tables (mask_table i)) ≡ table_size
  unfolding table_at
  table-length = length-take-le table_size (drop at tables) (omega (arith, length-drop at tables))

  pub middle-length : length middle ≡ table_size
  middle-length = length-with (mask_bit i) (table_at tables (mask_table i)) c ∙ table-length

  pub length-written : length (written tables i c) ≡ store_size
  unfolding written
  length-written =
      omega (arith, length-append front (middle ++ back), length-append middle back, front_length, middle-length, length-drop (at + table_size) tables)

  -- its own table has the bits written
  pub table-own : table_at (written tables i c) (mask_table i) ≡ middle
  unfolding written table_at
  table-own = ap (take table_size) (drop_at front (middle ++ back) at front_length) ∙ take_at middle back table_size middle-length

  -- and every other is unchanged
  pub table-other : (t : ℕ) → (t ≡ mask_table i → ⊥) → table_at (written tables i c) t ≡ table_at tables t
  unfolding written table_at
  table-other t n = go (order t (mask_table i))
    where
      whole : tables ≡ front ++ drop at tables
      whole = sym (take-append-drop at tables)

      after : mask_table i < t → drop (table_place t) (front ++ (middle ++ back)) ≡ drop (table_place t) tables
      after h =
          let e : (at + table_size) + (table_place t - (at + table_size)) ≡ table_place t = omega arith in
          let w : length (front ++ middle) ≡ at + table_size = omega (arith, length-append front middle, front_length, middle-length) in
          ap (λ (l : List ℕ). drop (table_place t) l) (sym (append_assoc front middle back))
          ∙ ap (λ (m : ℕ). drop m ((front ++ middle) ++ back)) (sym e)
          ∙ sym (drop-drop (table_place t - (at + table_size)) (at + table_size) ((front ++ middle) ++ back))
          ∙ ap (drop (table_place t - (at + table_size))) (drop_at (front ++ middle) back (at + table_size) w)
          ∙ drop-drop (table_place t - (at + table_size)) (at + table_size) tables
          ∙ ap (λ (m : ℕ). drop m tables) e

      go : Order t (mask_table i) → table_at (front ++ (middle ++ back)) t ≡ table_at tables t
      go (less h) = front-part t front (middle ++ back) (drop at tables) (omega (arith, front_length)) ∙ ap (λ (l : List ℕ). table_at l t) (sym whole)
      go (equal e) = absurd (n e)
      go (more h) = ap (take table_size) (after h)

  -- class i is the class written
  pub class-own : length c ≡ 256 → class_at (written tables i c) i ≡ c
  unfolding class_at
  class-own w = ap (map (is_set (mask_bit i))) table-own ∙ own_bits (mask_bit i) (table_at tables (mask_table i)) c (table-length ∙ sym w)

  -- and every other is unchanged, also those that are not held
  pub class-other : (j : ℕ) → (j ≡ i → ⊥) → class_at (written tables i c) j ≡ class_at tables j
  unfolding class_at
  class-other j n = go (is (eqb (mask_table j) (mask_table i)))
    where
      go : Is (eqb (mask_table j) (mask_table i)) → map (is_set (mask_bit j)) (table_at (written tables i c) (mask_table j)) ≡ map (is_set (mask_bit j)) (table_at tables (mask_table j))
      go (yes-is q) =
          let e : mask_table j ≡ mask_table i = eqb-true _ _ q in
          rw e (ap (map (is_set (mask_bit j))) table-own ∙ other-bits (mask_bit i) (mask_bit j) (table_at tables (mask_table i)) c (λ r. n (omega arith)))
      go (no-is q) = ap (map (is_set (mask_bit j))) (table-other (mask_table j) (eqb-false _ _ q))

  -- every bit after an addition: bit k of byte b of table t belongs to mask 8 t + k
  pub bits-after : length c ≡ 256 → (t b k : ℕ) → b < table_size → k < table_masks
      → bit (get_or (table_at (written tables i c) t) b 0) k ≡ cond (eqb (mask_of t k) i) (cond (has c b) 1 0) (bit (get_or (table_at tables t) b 0) k)
  bits-after w t b k hb hk = go (is (eqb t (mask_table i))) (is (eqb k (mask_bit i)))
    where
      go : Is (eqb t (mask_table i)) → Is (eqb k (mask_bit i))
          → bit (get_or (table_at (written tables i c) t) b 0) k ≡ cond (eqb (mask_of t k) i) (cond (has c b) 1 0) (bit (get_or (table_at tables t) b 0) k)
      go (no-is q) s =
          let n : t ≡ mask_table i → ⊥ = eqb-false _ _ q in
          rw (table-other t n, ne_eqb (mask_of t k) i (λ e. n (omega arith)))
      go (yes-is q) s =
          let e : t ≡ mask_table i = eqb-true _ _ q in
          let here : get_or middle b 0 ≡ with_bit (mask_bit i) (get_or (table_at tables (mask_table i)) b 0) (has c b) =
          with_at (mask_bit i) (table_at tables (mask_table i)) c b (omega (arith, table-length)) (omega arith) in
          rw (e, table-own, here) (bits s)
        where
          bits : Is (eqb k (mask_bit i)) → bit (with_bit (mask_bit i) (get_or (table_at tables (mask_table i)) b 0) (has c b)) k
              ≡ cond (eqb (mask_of (mask_table i) k) i) (cond (has c b) 1 0) (bit (get_or (table_at tables (mask_table i)) b 0) k)
          bits (yes-is r) =
              let e : k ≡ mask_bit i = eqb-true _ _ r in
              rw (eq-eqb (mask_of (mask_table i) k) i (omega arith), e) (bit-own (mask_bit i) (get_or (table_at tables (mask_table i)) b 0) (has c b))
          bits (no-is r) =
              let n : k ≡ mask_bit i → ⊥ = eqb-false _ _ r in
              rw (ne_eqb (mask_of (mask_table i) k) i (λ e. n (omega arith))) (bit-other (mask_bit i) (get_or (table_at tables (mask_table i)) b 0) (has c b) k n)
