-- Every bit of a store that has grown by several classes: masks that were held keep their bits, new ones are the classes, and every other bit is
-- unchanged, also those that mean nothing. Assumes nothing.
use mathlib.Core.Path.{◌≡◌, sym, ap, ◌∙◌}
use mathlib.Core.Bool.{true, cond, ◌&&◌}
use mathlib.Core.List.{List, [], ◌∷◌, ◌++◌}
use Prim.Native.Nat.{ℕ, suc, ◌+◌, ◌-◌, ◌≤◌, ◌<◌}
use native.Mathlib.Omega.{arith}
use borrow.Author.Tests.{eqb-true, eqb-false, leb-true, ltb-true, ltb-false, le-leb, lt-leb, le-ltb, lt-ltb}
use lib.Dec.{eqb, leb, ltb}
use lib.ListN.{length, get_or}
use lib.Seq.{get_or-append-add}
use Rattle.lists.specs.Lists.{all_l}
use Rattle.lists.proofs.Bools.{and_both, Is, yes-is, no-is, is}
use Rattle.bits.specs.Bits.{bit}
use Rattle.classes.specs.Classes.{Class, has}
use Rattle.mask_store.specs.declared.MaskStore.{MaskStore}
use Rattle.mask_store.specs.Layout.{table_size, table_masks, store_size, most_masks, mask_of, entry_place}
use Rattle.mask_store.specs.Masks.{held, held_with, written, written_all, grown}
use Rattle.mask_store.proofs.Growth.{whole, grows, fits, tables-are, count-is}
use Rattle.mask_store.proofs.MaskLaws.{length-held, length-written, table-at, bits-after}

module _ (t b k : ℕ) (byte : b < table_size) (one : k < table_masks) where
  -- the mask that bit k of byte b of table t belongs to
  abbrev i : ℕ
  i = mask_of t k

  abbrev at : List ℕ → ℕ
  at tables = bit (get_or tables (entry_place t b) 0) k

  one_written : (tables : List ℕ) (n : ℕ) (c : Class) → length tables ≡ store_size → n < most_masks → whole c ≡ true → at (written tables n c) ≡ cond (eqb i n) (cond (has c b) 1 0) (at tables)
  one_written tables n c w h p =
      rw (← table-at tables t b byte, ← table-at (written tables n c) t b byte) (bits-after tables n c w h (eqb-true _ _ p) t b k byte one)

  -- classes written as masks n, n + 1, ..
  all-bits : (tables : List ℕ) (n : ℕ) (new : List Class) → length tables ≡ store_size → n + length new ≤ most_masks → all_l whole new ≡ true
      → at (written_all tables n new) ≡ cond (leb n i && ltb i (n + length new)) (cond (has (get_or new (i - n) []) b) 1 0) (at tables)
  all-bits tables n [] w h a = go (is (leb n i))
    where
      go : Is (leb n i) → at tables ≡ cond (leb n i && ltb i (n + 0)) (cond (has (get_or [] (i - n) []) b) 1 0) (at tables)
      go (no-is q) = rw q
      go (yes-is q) = let l : n ≤ i = leb-true _ _ q in rw (q, le-ltb i (n + 0) (omega arith))
  all-bits tables n (c ∷ new) w h a =
      go (is (eqb i n)) (is (ltb i n)) (all-bits (written tables n c) (suc n) new (length-written tables n c w (omega arith)) (omega arith) (and_both (whole c) _ a).1)
    where
      this : at (written tables n c) ≡ cond (eqb i n) (cond (has c b) 1 0) (at tables)
      this = one_written tables n c w (omega arith) (and_both (whole c) _ a).0

      go : Is (eqb i n) → Is (ltb i n)
          → at (written_all (written tables n c) (suc n) new)
          ≡ cond (leb (suc n) i && ltb i (suc n + length new)) (cond (has (get_or new (i - suc n) []) b) 1 0) (at (written tables n c))
          → at (written_all (written tables n c) (suc n) new) ≡ cond (leb n i && ltb i (n + suc (length new))) (cond (has (get_or (c ∷ new) (i - n) []) b) 1 0) (at tables)
      go (yes-is q) x rest =
          let e : i ≡ n = eqb-true _ _ q in
          let z : i - n ≡ 0 = omega arith in
          rest ∙ rw (lt-leb (suc n) i (omega arith), this, q, z, le-leb n i (omega arith), lt-ltb i (n + suc (length new)) (omega arith))
      go (no-is q) (yes-is p) rest =
          let l : i < n = ltb-true _ _ p in
          rest ∙ rw (lt-leb (suc n) i (omega arith), this, q, lt-leb n i (omega arith))
      go (no-is q) (no-is p) rest =
          let l : n ≤ i = ltb-false _ _ p in
          let ne : i ≡ n → ⊥ = eqb-false _ _ q in
          let z : i - n ≡ suc (i - suc n) = omega (arith, ne) in
          let m : suc n + length new ≡ n + suc (length new) = omega arith in
          rest ∙ rw (this, q, z, m, le-leb n i l, le-leb (suc n) i (omega (arith, ne)))

-- bit k of byte b of table t belongs to mask 8 t + k
pub grown-bits : (s : MaskStore) (cs : List Class) → length s.tables ≡ store_size → all_l whole cs ≡ true → length (held_with s cs) ≤ most_masks
    → (t b k : ℕ) → b < table_size → k < table_masks
    → bit (get_or (grown s cs).tables (entry_place t b) 0) k
    ≡ cond (leb s.count (mask_of t k) && ltb (mask_of t k) (grown s cs).count) (cond (has (get_or (held_with s cs) (mask_of t k) []) b) 1 0)
    (bit (get_or s.tables (entry_place t b) 0) k)
grown-bits s cs size wide room t b k byte one =
    let new = (grows s cs size wide room).new in
    ap (at t b k byte one) (tables-are s cs size wide room)
    ∙ all-bits t b k byte one s.tables s.count new size (fits s cs size wide room) (grows s cs size wide room).pass
    ∙ rw (← count-is s cs size wide room) (go (is (leb s.count (mask_of t k))))
  where
    new : List Class
    new = (grows s cs size wide room).new

    go : Is (leb s.count (mask_of t k))
        → cond (leb s.count (mask_of t k) && ltb (mask_of t k) (grown s cs).count) (cond (has (get_or new (mask_of t k - s.count) []) b) 1 0) (bit (get_or s.tables (entry_place t b) 0) k)
        ≡ cond (leb s.count (mask_of t k) && ltb (mask_of t k) (grown s cs).count) (cond (has (get_or (held_with s cs) (mask_of t k) []) b) 1 0) (bit (get_or s.tables (entry_place t b) 0) k)
    go (no-is q) = rw q
    go (yes-is q) =
        let l : s.count ≤ mask_of t k = leb-true _ _ q in
        let e : length (held s) + (mask_of t k - s.count) ≡ mask_of t k = omega (arith, length-held s) in
        let f : get_or (held_with s cs) (mask_of t k) [] ≡ get_or new (mask_of t k - s.count) [] =
        ap (λ (x : List Class). get_or x (mask_of t k) []) (grows s cs size wide room).split
        ∙ ap (λ (n : ℕ). get_or (held s ++ new) n []) (sym e)
        ∙ get_or-append-add (held s) new (mask_of t k - s.count) [] in
        rw f
