-- A class looked for among the masks i, .., n - 1, and a class that stands twice among them: one law for each way through a search. Assumes nothing.
use mathlib.Core.Path.{◌≡◌, sym, ap, ◌∙◌}
use mathlib.Core.Bool.{Bool, true, false, beq, false≢true}
use mathlib.Core.List.{List, [], ◌∷◌}
use Prim.Native.Nat.{ℕ, zero, suc, ◌+◌, ◌-◌, ◌≤◌, ◌<◌}
use native.Mathlib.Nat.{sub-zero, zero-add}
use native.Mathlib.Numerals.{add-one}
use native.Mathlib.Omega.{arith}
use borrow.Author.Tests.{not-true, ltb-false, le-ltb, lt-leb, le-leb, leb-true}
use lib.ListN.{length, length-map}
use lib.Seq.{ext_get_or}
use Rattle.std.specs.Bool.{MatchBool}
use Rattle.std.specs.List.{AllWithin, HoldsAt, enumerate_from}
use Rattle.std.proofs.lemmas.List.FromFn.{length-enumerate_from, get_or-enumerate_from}
use Rattle.std.specs.Prelude.{Option, Some, None, MatchOption, unwrap_or}
use Rattle.lists.specs.Lists.{tab}
use Rattle.lists.proofs.Judged.{Judged}
use Rattle.lists.proofs.Elements.{length-tab}
use Rattle.lists.proofs.Bools.{and_both, Is, yes-is, no-is, is}
use Rattle.classes.specs.Classes.{Class, has}
use Rattle.mask_store.specs.declared.MaskStore.{MaskStore}
use Rattle.bits.specs.Bits.{is_set}
use Rattle.mask_store.specs.Layout.{store_size, most_masks, mask_table, mask_bit}
use Rattle.mask_store.specs.Masks.{table_at, mask_has, class_at, held, same_class, number_of, among, none_twice, allowed}
use Rattle.mask_store.proofs.Numbers.{beq-sound, same-eq, same_self, number-here, number-later, number-most}
use Rattle.mask_store.proofs.MaskLaws.{mask-class, table-length}

-- the classes of masks i, .., n - 1
abbrev pub masks : List ℕ → ℕ → ℕ → List Class
masks tables i n = tab i (n - i) (class_at tables)

-- a store holds those below its count
pub held-masks : (s : MaskStore) → held s ≡ masks s.tables 0 s.count
unfolding held
held-masks s = ap (λ (n : ℕ). tab 0 n (class_at s.tables)) (sym (sub-zero s.count))

module _ (tables : List ℕ) (size : length tables ≡ store_size) (i : ℕ) (room : i < most_masks) where
  pub class-length : length (class_at tables i) ≡ 256
  unfolding class_at
  class-length = length-map (table_at tables (mask_table i)) (is_set (mask_bit i)) ∙ table-length tables i [] size room

  -- flags that are the mask's byte by byte are its class
  pub class-is : (c : Class) → length c ≡ 256 → ((b : ℕ) → b < 256 → has c b ≡ mask_has tables i b) → c ≡ class_at tables i
  class-is c wide each =
      ext_get_or false c (class_at tables i) (wide ∙ sym class-length) (λ b h. let byte : b < 256 = omega arith in each b byte ∙ mask-class tables i b byte)

  pub class_same : (c : Class) → length c ≡ 256 → ((b : ℕ) → b < 256 → has c b ≡ mask_has tables i b) → same_class c (class_at tables i) ≡ true
  class_same c wide each = ap (same_class c) (sym (class-is c wide each)) ∙ same_self c

-- one unequal byte, and the class is another
pub class-differs : (tables : List ℕ) (i : ℕ) (c : Class) (b : ℕ) → b < 256 → beq (mask_has tables i b) (has c b) ≡ false → same_class c (class_at tables i) ≡ false
class-differs tables i c b byte n = go (is (same_class c (class_at tables i)))
  where
    go : Is (same_class c (class_at tables i)) → same_class c (class_at tables i) ≡ false
    go (no-is q) = q
    go (yes-is q) =
        let e : mask_has tables i b ≡ has c b = mask-class tables i b byte ∙ ap (λ (d : Class). has d b) (sym (same-eq c (class_at tables i) q)) in
        absurd (false≢true (sym n ∙ ap (λ (x : Bool). beq x (has c b)) e ∙ beq-sound.self (has c b)))

-- flags that are compared with the mask's byte by byte, in order
module _ (tables : List ℕ) (size : length tables ≡ store_size) (i : ℕ) (room : i < most_masks) (c : Class) (wide : length c ≡ 256) where
  abbrev flags : List (ℕ × Bool)
  flags = enumerate_from 0 c

  pub class-told : (r : Bool) → MatchBool r (AllWithin (λ p. mask_has tables i p.0 ≡ p.1) flags 0 (length flags)) ((k : ℕ) × (k < length flags) × HoldsAt (λ p. beq (mask_has tables i p.0) p.1 ≡ false) flags k)
      → r ≡ same_class c (class_at tables i)
  class-told true all =
      sym (class_same tables size i room c wide
      (λ k h. let byte : k < length c = omega arith in let n = length-enumerate_from 0 c in let z = all k (0, false) (omega arith) (omega (arith, n)) in sym (rw (get_or-enumerate_from 0 c k (0, false) byte, zero-add k) at z)))
  class-told false (k, h, n) =
      let byte : k < length c = omega (arith, length-enumerate_from 0 c) in
      sym (class-differs tables i c k (omega arith) (rw (get_or-enumerate_from 0 c k (0, false) byte, zero-add k) at (n (0, false))))

-- ---- the search, mask by mask

module _ (tables : List ℕ) (i n : ℕ) where
  masks-first : i < n → masks tables i n ≡ class_at tables i ∷ masks tables (i + 1) n
  masks-first h = let e : n - i ≡ suc (n - suc i) = omega arith in rw (add-one i, e)

  pub masks-none : n ≤ i → masks tables i n ≡ []
  masks-none h = let e : n - i ≡ 0 = omega arith in rw e

  module _ (c : Class) where
    pub search-on : i < n → same_class c (class_at tables i) ≡ false → (i + 1) + number_of (masks tables (i + 1) n) c ≡ i + number_of (masks tables i n) c
    search-on h q =
        let e : number_of (masks tables i n) c ≡ suc (number_of (masks tables (i + 1) n) c) =
        ap (λ (l : List Class). number_of l c) (masks-first h) ∙ number-later c (class_at tables i) (masks tables (i + 1) n) q in
        omega arith

  -- the number that a search from i on answers tells where none of the masks is the class
  search-not : (c : Class) → i ≤ n → n ≤ i + number_of (masks tables i n) c → among (masks tables i n) c ≡ false
  search-not c k h = le-ltb (number_of (masks tables i n) c) (length (masks tables i n)) (omega (arith, length-tab i (n - i) (class_at tables)))

-- the first that is the class, as it is looked for
module _ (tables : List ℕ) (n : ℕ) (c : Class) where
  skipped : (k i j : ℕ) → i + k ≡ j → j ≤ n → ((m : ℕ) → i ≤ m → m < j → same_class c (class_at tables m) ≡ false) → j + number_of (masks tables j n) c ≡ i + number_of (masks tables i n) c
  skipped zero i j e h a = let here : j ≡ i = omega arith in ap (λ (m : ℕ). m + number_of (masks tables m n) c) here
  skipped (suc k) i j e h a = skipped k (i + 1) j (omega arith) h (λ m b l. a m (omega arith) l) ∙ search-on tables i n c (omega arith) (a i (omega arith) (omega arith))

  pub first-told : (from : ℕ) (r : Option ℕ) → from ≤ n
      → MatchOption r ((m : ℕ) → from ≤ m → m < n → same_class c (class_at tables m) ≡ false)
      (λ i. (from ≤ i) × (i < n) × (same_class c (class_at tables i) ≡ true) × ((m : ℕ) → from ≤ m → m < i → same_class c (class_at tables m) ≡ false))
      → unwrap_or r n ≡ from + number_of (masks tables from n) c
  first-told from None h a =
      let none : number_of (masks tables n n) c ≡ 0 = ap (λ (l : List Class). number_of l c) (masks-none tables n n (omega arith)) in
      omega (arith, none, skipped (n - from) from n (omega arith) (omega arith) a)
  first-told from (Some i) h (b, l, q, a) =
      let here : number_of (masks tables i n) c ≡ 0 = ap (λ (l : List Class). number_of l c) (masks-first tables i n l) ∙ number-here c (class_at tables i) (masks tables (i + 1) n) q in
      omega (arith, here, skipped (i - from) from i (omega arith) (omega arith) a)

-- ---- a class that stands twice

module _ (tables : List ℕ) (i n : ℕ) (h : i < n) where
  twice-later : among (masks tables (i + 1) n) (class_at tables i) ≡ false → none_twice (masks tables i n) ≡ none_twice (masks tables (i + 1) n)
  twice-later q = rw (masks-first tables i n h, q)

twice-none : (tables : List ℕ) (i n : ℕ) → n ≤ i → none_twice (masks tables i n) ≡ true
twice-none tables i n h = rw (masks-none tables i n h)

-- the masks are looked for one after another, each behind itself
module _ (tables : List ℕ) (n : ℕ) where
  -- what is answered for mask i
  abbrev behind : ℕ → ℕ
  behind i = (i + 1) + number_of (masks tables (i + 1) n) (class_at tables i)

  once : (k i : ℕ) → i + k ≡ n → ((j : ℕ) → i ≤ j → j < n → behind j ≡ n) → none_twice (masks tables i n) ≡ true
  once zero i e a = twice-none tables i n (omega arith)
  once (suc k) i e a =
      let l : i < n = omega arith in
      twice-later tables i n l (search-not tables (i + 1) n (class_at tables i) (omega arith) (omega (arith, a i (omega arith) l))) ∙ once k (i + 1) (omega arith) (λ j b h. a j (omega arith) h)

  each : (k i j : ℕ) → i + k ≡ j → j < n → none_twice (masks tables i n) ≡ true → behind j ≡ n
  each zero i j e h t =
      let first = and_both _ _ (rw (masks-first tables i n (omega arith)) at t) in
      let past = ltb-false (number_of (masks tables (i + 1) n) (class_at tables i)) (length (masks tables (i + 1) n)) (not-true _ first.0) in
      let here : i ≡ j = omega arith in
      ap behind (sym here) ∙ omega (arith, past, number-most (masks tables (i + 1) n) (class_at tables i), length-tab (i + 1) (n - (i + 1)) (class_at tables))
  each (suc k) i j e h t = each k (i + 1) j (omega arith) h (and_both _ _ (rw (masks-first tables i n (omega arith)) at t)).1

  pub once-judged : Judged (none_twice (masks tables 0 n)) n (λ i. behind i ≡ n)
  once-judged = record { all = λ a. once n 0 (omega arith) (λ j b h. a j h); each = λ t i h. each i 0 i (omega arith) h t }

-- ---- a whole store

module _ (s : MaskStore) where
  -- the number that a search of all its masks answers
  pub search-all : (c : Class) → 0 + number_of (masks s.tables 0 s.count) c ≡ number_of (held s) c
  search-all c = zero-add (number_of (masks s.tables 0 s.count) c) ∙ ap (λ (l : List Class). number_of l c) (sym (held-masks s))

  -- what 15 says of it
  pub allowed-over : most_masks < s.count → allowed s ≡ false
  unfolding allowed
  allowed-over h = rw (lt-leb s.count most_masks h)

  pub allowed-is : s.count ≤ most_masks → allowed s ≡ none_twice (masks s.tables 0 s.count)
  unfolding allowed
  allowed-is h = rw (le-leb s.count most_masks h, held-masks s)

  pub allowed-count : allowed s ≡ true → s.count ≤ most_masks
  unfolding allowed
  allowed-count a = leb-true _ _ (and_both _ _ a).0
