-- A store that has grown holds what it held and the classes met; the tables that are rendered, bit by bit. Assumes nothing.
use mathlib.Core.Path.{◌≡◌, refl, sym, ap, ◌∙◌}
use mathlib.Core.Bool.{Bool, true}
use mathlib.Core.List.{List, [], ◌∷◌, ◌++◌, append_assoc}
use Prim.Native.Nat.{ℕ, zero, suc, ◌+◌, ◌-◌, ◌≤◌, ◌<◌}
use native.Mathlib.Nat.{not-suc-le-zero, le_of_suc-le-suc}
use native.Mathlib.Omega.{arith}
use borrow.Author.Tests.{ltb-true, ltb-false, eqb-true, le-leb}
use lib.Dec.{eqb, leb, ltb}
use lib.ListN.{length, get_or, drop, length-append, get_or-append}
use lib.Seq.{drop_at, get_or-append-add, ext_get_or}
use Rattle.lists.specs.Lists.{all_l}
use Rattle.lists.proofs.Bools.{and_both, and_intro, Is, yes-is, no-is, is}
use Rattle.classes.specs.Classes.{Class}
use Rattle.mask_store.specs.declared.MaskStore.{MaskStore}
use Rattle.mask_store.specs.Layout.{store_size, most_masks}
use Rattle.mask_store.specs.Masks.{class_at, held, held_with, number_of, among, met, written, written_all, grown, allowed, none_twice}
use Rattle.mask_store.proofs.Numbers.{Grows, met-append, met-split, met-grows, met_all, met_has, met-once, number_at}
use Rattle.mask_store.proofs.MaskLaws.{length-held, held_at, length-written, class-own, class-other}

-- the class has 256 flags
abbrev pub whole : Class → Bool
whole c = eqb (length c) 256

-- ---- classes written one after another

all-before : (tables : List ℕ) (n : ℕ) (new : List Class) → length tables ≡ store_size → n + length new ≤ most_masks → (j : ℕ) → j < n
    → class_at (written_all tables n new) j ≡ class_at tables j
all-before tables n [] w h j l = refl
all-before tables n (c ∷ new) w h j l =
    all-before (written tables n c) (suc n) new (length-written tables n c w (omega arith)) (omega arith) j (omega arith)
    ∙ class-other tables n c w (omega arith) j (λ e. omega arith)

all_new : (tables : List ℕ) (n : ℕ) (new : List Class) → length tables ≡ store_size → n + length new ≤ most_masks → all_l whole new ≡ true → (i : ℕ) → i < length new
    → class_at (written_all tables n new) (n + i) ≡ get_or new i []
all_new tables n [] w h a i l = absurd (not-suc-le-zero l)
all_new tables n (c ∷ new) w h a zero l =
    let e : n + 0 ≡ n = omega arith in
    rw e
    (all-before (written tables n c) (suc n) new (length-written tables n c w (omega arith)) (omega arith) n (omega arith)
    ∙ class-own tables n c w (omega arith) (eqb-true _ _ (and_both (whole c) _ a).0))
all_new tables n (c ∷ new) w h a (suc i) l =
    let e : n + suc i ≡ suc n + i = omega arith in
    rw e (all_new (written tables n c) (suc n) new (length-written tables n c w (omega arith)) (omega arith) (and_both (whole c) _ a).1 i (le_of_suc-le-suc l))

-- ---- the store that has grown

module _ (s : MaskStore) (cs : List Class) (size : length s.tables ≡ store_size) (wide : all_l whole cs ≡ true) (room : length (held_with s cs) ≤ most_masks) where
  pub grows : Grows whole (held s) (held_with s cs)
  unfolding held_with
  grows = met-grows whole (held s) cs wide

  pub new_is : drop s.count (held_with s cs) ≡ grows.new
  new_is = ap (drop s.count) grows.split ∙ drop_at (held s) grows.new s.count (length-held s)

  pub fits : s.count + length grows.new ≤ most_masks
  fits = omega (arith, ap length grows.split, length-append (held s) grows.new, length-held s)

  pub tables-are : (grown s cs).tables ≡ written_all s.tables s.count grows.new
  unfolding grown
  tables-are = ap (written_all s.tables s.count) new_is

  pub count-is : (grown s cs).count ≡ s.count + length grows.new
  unfolding grown
  count-is = omega (arith, ap length grows.split, length-append (held s) grows.new, length-held s)

  -- the store holds what it held and the classes met
  pub held_grown : held (grown s cs) ≡ held_with s cs
  held_grown =
      ext_get_or [] (held (grown s cs)) (held_with s cs)
      (length-held (grown s cs) ∙ count-is ∙ sym (ap length grows.split ∙ length-append (held s) grows.new ∙ ap (λ (n : ℕ). n + length grows.new) (length-held s)))
      (λ i h. go i (omega (arith, length-held (grown s cs))) (is (ltb i s.count)))
    where
      at : (i : ℕ) → i < (grown s cs).count → get_or (held (grown s cs)) i [] ≡ class_at (written_all s.tables s.count grows.new) i
      at i h = held_at (grown s cs) i h ∙ ap (λ (l : List ℕ). class_at l i) tables-are

      go : (i : ℕ) → i < (grown s cs).count → Is (ltb i s.count) → get_or (held (grown s cs)) i [] ≡ get_or (held_with s cs) i []
      go i h (yes-is q) =
          let l : i < s.count = ltb-true _ _ q in
          at i h
          ∙ all-before s.tables s.count grows.new size fits i l
          ∙ sym (held_at s i l)
          ∙ sym (get_or-append (held s) grows.new [] i (omega (arith, length-held s)))
          ∙ ap (λ (x : List Class). get_or x i []) (sym grows.split)
      go i h (no-is q) =
          let l : s.count ≤ i = ltb-false _ _ q in
          let e : s.count + (i - s.count) ≡ i = omega arith in
          let e' : length (held s) + (i - s.count) ≡ i = omega (arith, length-held s) in
          at i h
          ∙ ap (class_at (written_all s.tables s.count grows.new)) (sym e)
          ∙ all_new s.tables s.count grows.new size fits grows.pass (i - s.count) (omega (arith, count-is))
          ∙ sym (get_or-append-add (held s) grows.new (i - s.count) [])
          ∙ ap (λ (n : ℕ). get_or (held s ++ grows.new) n []) e'
          ∙ ap (λ (x : List Class). get_or x i []) (sym grows.split)

  -- a class that was given is held under its number
  pub given-held : (c : Class) → among (held_with s cs) c ≡ true
      → (number_of (held_with s cs) c < (grown s cs).count) × (class_at (grown s cs).tables (number_of (held_with s cs) c) ≡ c)
  given-held c h =
      let i : ℕ = number_of (held_with s cs) c in
      let l : i < length (held_with s cs) = ltb-true _ _ h in
      let l' : i < (grown s cs).count = omega (arith, ap length held_grown, length-held (grown s cs)) in
      (l', sym (held_at (grown s cs) i l') ∙ ap (λ (x : List Class). get_or x i []) held_grown ∙ number_at (held_with s cs) c l)

  pub all-given : all_l (among (held_with s cs)) cs ≡ true
  unfolding held_with
  all-given = met_has (held s) cs

  -- the store that has grown is allowed
  pub grown-allowed : allowed s ≡ true → allowed (grown s cs) ≡ true
  unfolding allowed held_with
  grown-allowed a =
      and_intro (leb (grown s cs).count most_masks) _
      (le-leb (grown s cs).count most_masks (omega (arith, room, ap length held_grown, length-held (grown s cs))))
      (ap none_twice held_grown ∙ met-once (held s) cs (and_both (leb s.count most_masks) _ a).1)

-- ---- in two goes, as a loop adds them

written-append : (tables : List ℕ) (n : ℕ) (a b : List Class) → written_all tables n (a ++ b) ≡ written_all (written_all tables n a) (n + length a) b
written-append tables n [] b = let e : n ≡ n + 0 = omega arith in ap (λ (m : ℕ). written_all tables m b) e
written-append tables n (c ∷ a) b =
    let e : suc n + length a ≡ n + suc (length a) = omega arith in
    written-append (written tables n c) (suc n) a b ∙ ap (λ (m : ℕ). written_all (written_all (written tables n c) (suc n) a) m b) e

pub grown-append : (s : MaskStore) (a b : List Class) → length s.tables ≡ store_size → all_l whole a ≡ true → length (held_with s a) ≤ most_masks
    → grown s (a ++ b) ≡ grown (grown s a) b
unfolding grown held_with
grown-append s a b size wide room =
    let h : held (grown s a) ≡ met (held s) a = held_grown s a size wide room in
    let all-is : met (held (grown s a)) b ≡ met (held s) (a ++ b) = ap (λ (l : List Class). met l b) h ∙ sym (met-append (held s) a b) in
    let (na, ea) = met-split (held s) a in
    let (nb, eb) = met-split (met (held s) a) b in
    let count-a : length (met (held s) a) ≡ s.count + length na = omega (arith, ap length ea, length-append (held s) na, length-held s) in
    let new-a : drop s.count (met (held s) a) ≡ na = ap (drop s.count) ea ∙ drop_at (held s) na s.count (length-held s) in
    let whole_is : met (held s) (a ++ b) ≡ held s ++ (na ++ nb) = met-append (held s) a b ∙ eb ∙ ap (λ (l : List Class). l ++ nb) ea ∙ append_assoc (held s) na nb in
    let new-ab : drop s.count (met (held s) (a ++ b)) ≡ na ++ nb = ap (drop s.count) whole_is ∙ drop_at (held s) (na ++ nb) s.count (length-held s) in
    let new-b : drop (length (met (held s) a)) (met (held (grown s a)) b) ≡ nb =
    ap (drop (length (met (held s) a))) (all-is ∙ met-append (held s) a b ∙ eb) ∙ drop_at (met (held s) a) nb (length (met (held s) a)) refl in
    let p : written_all s.tables s.count (drop s.count (met (held s) (a ++ b)))
    ≡ written_all (written_all s.tables s.count (drop s.count (met (held s) a))) (length (met (held s) a)) (drop (length (met (held s) a)) (met (held (grown s a)) b)) =
    ap (written_all s.tables s.count) new-ab
    ∙ written-append s.tables s.count na nb
    ∙ ap (λ (m : ℕ). written_all (written_all s.tables s.count na) m nb) (sym count-a)
    ∙ ap (λ (l : List Class). written_all (written_all s.tables s.count l) (length (met (held s) a)) nb) (sym new-a)
    ∙ ap (written_all (written_all s.tables s.count (drop s.count (met (held s) a))) (length (met (held s) a))) (sym new-b) in
    let q : length (met (held s) (a ++ b)) ≡ length (met (held (grown s a)) b) = ap length (sym all-is) in
    λ i. record { tables = p i; count = q i }

-- ---- a store whose count does not grow does not change, and so does one that has all of them

pub grown-same : (s : MaskStore) (cs : List Class) → (grown s cs).count ≡ s.count → grown s cs ≡ s
unfolding grown
grown-same s cs n =
    let d : drop s.count (held_with s cs) ≡ [] = ap (λ (k : ℕ). drop k (held_with s cs)) (sym n) ∙ lib.Seq.drop-length (held_with s cs) in
    let p : written_all s.tables s.count (drop s.count (held_with s cs)) ≡ s.tables = ap (written_all s.tables s.count) d in
    λ i. record { tables = p i; count = n i }

pub grown-none : (s : MaskStore) (cs : List Class) → all_l (among (held s)) cs ≡ true → grown s cs ≡ s
unfolding grown held_with
grown-none s cs a = grown-same s cs (ap length (met_all (held s) cs a) ∙ length-held s)
