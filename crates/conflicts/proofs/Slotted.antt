-- Ties put in order: two ties compared leaf by leaf, the place of one among those in order, and the records with it put in there. Assumes nothing.
use Rattle.std.specs.Prelude.{Option, Some, None, IfSome}
use mathlib.Core.Path.{◌≡◌, refl, sym, ap, ap₂, subst, ◌∙◌}
use mathlib.Core.Bool.{true, false}
use mathlib.Core.List.{List, [], ◌∷◌, ◌++◌, map, map-append, append_assoc}
use Prim.Native.Nat.{ℕ, zero, suc, ◌+◌, ◌-◌, ◌≤◌, ◌<◌, zero-le, suc-le-suc}
use native.Mathlib.Nat.{le_of_suc-le-suc}
use native.Mathlib.Omega.{arith}
use borrow.Author.Tests.{ne_eqb}
use lib.Dec.{ltb}
use lib.ListN.{length, get_or, take, drop, set, length-append, length-take, length-drop, length-map, get_or-append}
use lib.Seq.{length-take-le, take-suc, append_snoc, set_at, get_or-take, get_or-drop, get_or_at, get_or-append-add, take-add, take_at, drop_at}
use Rattle.lists.specs.Lists.{before, insert}
use Rattle.lists.proofs.Bools.{or-false, Is, is, yes-is, no-is, Order, order, less, equal, more}
use Rattle.lists.proofs.Elements.{map_at}
use Rattle.lists.proofs.Sorted.{before-equal, before-not}
use Rattle.graph_rules.specs.Table.{table_of, match_of}
use Rattle.legal.specs.declared.Table as legal
use Rattle.legal.specs.declared.Record.{Record}
use Rattle.legal.specs.Records.{number_of}
use Rattle.leaves.specs.Chains.{next_tied, tie_from, tie_at}
use Rattle.conflicts.specs.Slots.{tie_of, slot, put_in, Held}
use Rattle.leaves.proofs.Contenders.{tie-step}
use Rattle.graph_rules.specs.Layout.{most_states}

-- ---- ties, walked record by record

-- the tie from a record on, if there is one
abbrev pub tie_on : Option Record → List ℕ
tie_on None = []
tie_on (Some r) = tie_of r

-- o is the next of the tie
abbrev pub NextTied : Record → Option Record → Type 0
NextTied r o = (number_of o ≡ next_tied (table_of r.table.words.now) r.number) × IfSome o (λ n. n.table ≡ r.table)

tie-same : (table : legal.Table) (o : Option Record) → IfSome o (λ r. r.table ≡ table) → tie_at (table_of table.words.now) (number_of o) ≡ tie_on o
tie-same table None of = refl
tie-same table (Some r) of = ap (λ (u : legal.Table). tie_from (table_of u.words.now) r.number) (sym of)

module _ (r : Record) where
  abbrev leaf : ℕ
  leaf = (match_of (table_of r.table.words.now) r.number).leaf

  abbrev rest : List ℕ
  rest = tie_at (table_of r.table.words.now) (next_tied (table_of r.table.words.now) r.number)

  pub tie-begins : tie_of r ≡ leaf ∷ rest
  tie-begins = tie-step r.table.words.now r.table.legal r.number r.some r.there

  pub tie-next : (o : Option Record) → NextTied r o → tie_of r ≡ leaf ∷ tie_on o
  tie-next o n = tie-begins ∙ ap {B = List ℕ} (λ l. leaf ∷ l) (ap (tie_at (table_of r.table.words.now)) (sym n.0) ∙ tie-same r.table o n.1)

  pub before-none : before (tie_of r) [] ≡ false
  before-none = ap (λ (l : List ℕ). before l []) tie-begins

module _ (i j : Record) where
  pub unlike-before : (leaf i ≡ leaf j → ⊥) → before (tie_of i) (tie_of j) ≡ ltb (leaf i) (leaf j)
  unlike-before n = ap₂ before (tie-begins i) (tie-begins j) ∙ rw (ne_eqb (leaf i) (leaf j) n) (or-false (ltb (leaf i) (leaf j)))

  pub equal-before : leaf i ≡ leaf j → (o p : Option Record) → NextTied i o → NextTied j p → before (tie_of i) (tie_of j) ≡ before (tie_on o) (tie_on p)
  equal-before e o p n m = ap₂ before (tie-next i o n) (tie-next j p m) ∙ before-equal (leaf i) (leaf j) (tie_on o) (tie_on p) e

  pub ended-before : leaf i ≡ leaf j → NextTied i None → before (tie_of i) (tie_of j) ≡ true
  ended-before e n = ap₂ before (tie-next i None n) (tie-begins j) ∙ before-equal (leaf i) (leaf j) [] (rest j) e

-- ---- the place of a list among those in order

pub insert-slot : (a : List ℕ) (l : List (List ℕ)) → insert a l ≡ take (slot a l) l ++ (a ∷ drop (slot a l) l)
insert-slot a [] = refl
insert-slot a (b ∷ l) = go (is (before a b)) (insert-slot a l)
  where
    go : Is (before a b) → insert a l ≡ take (slot a l) l ++ (a ∷ drop (slot a l) l)
        → insert a (b ∷ l) ≡ take (slot a (b ∷ l)) (b ∷ l) ++ (a ∷ drop (slot a (b ∷ l)) (b ∷ l))
    go (yes-is q) e = rw (q, insert, slot)
    go (no-is q) e = rw (q, insert, slot) (ap (◌∷◌ b) e)

-- it is the first that a comes before
pub slot_is : (a : List ℕ) (l : List (List ℕ)) (p : ℕ) → p ≤ length l → ((j : ℕ) → j < p → before a (get_or l j []) ≡ false)
    → (p < length l → before a (get_or l p []) ≡ true) → slot a l ≡ p
slot_is a [] p h f g = omega arith
slot_is a (b ∷ l) zero h f g = rw (g (suc-le-suc zero-le), slot)
slot_is a (b ∷ l) (suc p) h f g =
    rw (f 0 (suc-le-suc zero-le), slot) (ap suc (slot_is a l p (le_of_suc-le-suc h) (λ j k. f (suc j) (suc-le-suc k)) (λ k. g (suc-le-suc k))))

-- ---- its place by halving: it is among the places from low to high

pub record Between (f : ℕ → List ℕ) (l : List ℕ) (k : ℕ) (a : List ℕ) (low high : ℕ) : Type 0 where
  pub inside : low ≤ high
  pub end : high ≤ k
  pub passed : (j : ℕ) → j < low → before a (f (get_or l j 0)) ≡ false
  pub comes : high < k → before a (f (get_or l high 0)) ≡ true

module _ (f : ℕ → List ℕ) (l : List ℕ) (k : ℕ) (a : List ℕ) where
  module _ (low high m : ℕ) (b : Between f l k a low high) (left : low ≤ m) (right : m < high) where
    pub between-low : before a (f (get_or l m 0)) ≡ true → Between f l k a low m
    between-low q = let e = b.end in record { inside = left; end = omega arith; passed = b.passed; comes = λ h. q }

    pub between-high : ((i j : ℕ) → i ≤ j → j < k → before (f (get_or l i 0)) (f (get_or l j 0)) ≡ true) → before a (f (get_or l m 0)) ≡ false
        → Between f l k a (m + 1) high
    between-high ordered q =
        let e = b.end in
        record {
          inside = omega arith;
          end = b.end;
          passed = λ j h. before-not a (f (get_or l j 0)) (f (get_or l m 0)) (ordered j m (omega arith) (omega arith)) q;
          comes = b.comes;
        }

-- the places of the whole list are halved until one is left
pub between-slot : (f : ℕ → List ℕ) (l : List ℕ) (a : List ℕ) (p q : ℕ) → q ≤ p → Between f l (length l) a p q → slot a (map f l) ≡ p
between-slot f l a p q h b =
    let i = b.inside in
    let e = b.end in
    slot_is a (map f l) p (let n = length-map l f in omega arith)
    (λ j g. ap (before a) (map_at f l j 0 [] (omega arith)) ∙ b.passed j g)
    (λ g.
    let g' : p < length l = let n = length-map l f in omega arith in
    let z : p ≡ q = omega arith in
    ap (before a) (map_at f l p 0 [] g') ∙ ap (λ (x : ℕ). before a (f (get_or l x 0))) z ∙ b.comes (omega arith))

-- ---- a record put in at that place

-- ---- a record put in at that place

-- the elements from j up to k one place on, place j still as it was
unfoldable pub shifted : List ℕ → ℕ → ℕ → List ℕ
shifted l k j = take (suc j) l ++ (take (k - j) (drop j l) ++ drop (suc k) l)

-- with the new element there
pub shifted-last : (l : List ℕ) (k : ℕ) → k < length l → (p v : ℕ) → p ≤ k → set (shifted l k p) p v ≡ put_in l k p v
unfolding shifted put_in
shifted-last l k room p v h =
    let moved = take (k - p) (drop p l) ++ drop (suc k) l in
    ap (λ (a : List ℕ). set (a ++ moved) p v) (take-suc l p 0 (omega arith))
    ∙ ap (λ (a : List ℕ). set a p v) (append_snoc (take p l) (get_or l p 0) moved)
    ∙ set_at (take p l) (get_or l p 0) moved v p (length-take-le p l (omega arith))

-- ---- the first k elements with it, and what begins there

module _ (l : List ℕ) (k p v : ℕ) (low : p ≤ k) (room : k < length l) where
  abbrev after : List ℕ
  after = take (k - p) (drop p l)

  pub put-length : length (put_in l k p v) ≡ length l
  unfolding put_in
  put-length = simp (length-append, length-take, length-drop) (omega arith)

  put-take : take (k + 1) (put_in l k p v) ≡ take p l ++ (v ∷ after)
  unfolding put_in
  put-take =
      ap (take (k + 1)) (sym (append_assoc (take p l) (v ∷ after) (drop (suc k) l)))
      ∙ take_at (take p l ++ (v ∷ after)) (drop (suc k) l) (k + 1) (simp (length-append, length-take, length-drop) (omega arith))

  parts : take k l ≡ take p l ++ after
  parts = let e : k ≡ p + (k - p) = omega arith in ap (λ (n : ℕ). take n l) e ∙ take-add p (k - p) l

  -- where it is put in at its place, it is inserted
  pub put-insert : (f : ℕ → List ℕ) → p ≡ slot (f v) (map f (take k l)) → map f (take (k + 1) (put_in l k p v)) ≡ insert (f v) (map f (take k l))
  put-insert f e =
      let a = map f (take p l) in
      let b = map f after in
      let h : length a ≡ p = length-map (take p l) f ∙ length-take-le p l (omega arith) in
      let q : map f (take k l) ≡ a ++ b = ap (map f) parts ∙ map-append f (take p l) after in
      let i : insert (f v) (a ++ b) ≡ take p (a ++ b) ++ (f v ∷ drop p (a ++ b)) =
      insert-slot (f v) (a ++ b) ∙ ap (λ (n : ℕ). take n (a ++ b) ++ (f v ∷ drop n (a ++ b))) (sym (e ∙ ap (slot (f v)) q)) in
      ap (map f) put-take
      ∙ map-append f (take p l) (v ∷ after)
      ∙ ap₂ (λ (x y : List (List ℕ)). x ++ (f v ∷ y)) (sym (take_at a b p h)) (sym (drop_at a b p h))
      ∙ sym i
      ∙ ap (insert (f v)) (sym q)

  pub put-held : (r : ℕ) → Held r l k → 0 < v → v ≤ r → k < most_states → Held r (put_in l k p v) (k + 1)
  put-held r h a b few = record { few = omega arith; long = let e = put-length in omega arith; low = λ j g. subst (λ (x : ℕ). (0 < x) × (x ≤ r)) (sym (here j g)) (go j g (order j p)) }
    where
      front : List ℕ
      front = take p l ++ (v ∷ after)

      here : (j : ℕ) → j < k + 1 → get_or (put_in l k p v) j 0 ≡ get_or front j 0
      here j g = sym (get_or-take (k + 1) (put_in l k p v) j 0 g) ∙ ap (λ (m : List ℕ). get_or m j 0) put-take

      first : length (take p l) ≡ p
      first = length-take-le p l (omega arith)

      go : (j : ℕ) → j < k + 1 → Order j p → (0 < get_or front j 0) × (get_or front j 0 ≤ r)
      go j g (less q) =
          let e : get_or front j 0 ≡ get_or l j 0 = get_or-append (take p l) (v ∷ after) 0 j (let z = first in omega arith) ∙ get_or-take p l j 0 q in
          let m = h.low j (omega arith) in
          (omega arith, omega arith)
      go j g (equal q) = let e : get_or front j 0 ≡ v = get_or_at (take p l) v after 0 j (first ∙ sym q) in (omega arith, omega arith)
      go j g (more q) =
          let m = j - suc p in
          let n : j ≡ length (take p l) + suc m = let z = first in omega arith in
          let e : get_or front j 0 ≡ get_or l (p + m) 0 =
          ap (λ (i : ℕ). get_or front i 0) n ∙ get_or-append-add (take p l) (v ∷ after) (suc m) 0 ∙ get_or-take (k - p) (drop p l) m 0 (omega arith) ∙ get_or-drop p l m 0 in
          let b = h.low (p + m) (omega arith) in
          (omega arith, omega arith)
