-- What tells the maximal ranges of a class from any other list of ranges: their bytes are the class's (`within_has`, in Ranges), each has a byte
-- (`ranges-full`), they ascend (`ranges-ascend`), and at least one byte parts two of them (`ranges-parted`). No other list of ranges is so
-- (`ranges-unique`). Assumes nothing.
use mathlib.Core.Path.{◌≡◌, refl, sym, ap, ◌∙◌}
use mathlib.Core.Bool.{true, false, false≢true}
use mathlib.Core.List.{List, ◌∷◌}
use Prim.Native.Nat.{ℕ, zero, suc, ◌≤◌, ◌<◌}
use native.Mathlib.Nat.{not-suc-le-zero, le_of_suc-le-suc}
use native.Mathlib.Omega.{arith}
use borrow.Author.Tests.{le-leb, lt-leb}
use lib.ListN.{length, get_or}
use Rattle.lists.proofs.Bools.{Order, less, equal, more, order}
use Rattle.classes.specs.Classes.{Class, has, Range, within, ranges}
use Rattle.classes.proofs.Ranges.{Apart, apart-nil, apart_cons, ranges_apart, within_has, within-below}

-- range i of a list that has so many
abbrev pub nth : List Range → ℕ → Range
nth rs i = get_or rs i (record { first = 0; last = 0 })

apart_low : {low : ℕ} {rs : List Range} → Apart low rs → (i : ℕ) → i < length rs → low ≤ (nth rs i).first
apart_low apart-nil i h = absurd (not-suc-le-zero h)
apart_low (apart_cons a b p) zero h = a
apart_low (apart_cons {r = r} a b p) (suc i) h = let l = apart_low p i (le_of_suc-le-suc h) in omega arith

apart-full : {low : ℕ} {rs : List Range} → Apart low rs → (i : ℕ) → i < length rs → (nth rs i).first ≤ (nth rs i).last
apart-full apart-nil i h = absurd (not-suc-le-zero h)
apart-full (apart_cons a b p) zero h = b
apart-full (apart_cons a b p) (suc i) h = apart-full p i (le_of_suc-le-suc h)

apart-parted : {low : ℕ} {rs : List Range} → Apart low rs → (i j : ℕ) → i < j → j < length rs → suc (nth rs i).last < (nth rs j).first
apart-parted apart-nil i j l h = absurd (not-suc-le-zero h)
apart-parted (apart_cons a b p) i zero l h = absurd (not-suc-le-zero l)
apart-parted (apart_cons a b p) zero (suc j) l h = apart_low p j (le_of_suc-le-suc h)
apart-parted (apart_cons a b p) (suc i) (suc j) l h = apart-parted p i j (le_of_suc-le-suc l) (le_of_suc-le-suc h)

-- ---- the ranges of a class

module _ (c : Class) where
  pub ranges-full : (i : ℕ) → i < length (ranges c) → (nth (ranges c) i).first ≤ (nth (ranges c) i).last
  ranges-full = apart-full (ranges_apart c)

  pub ranges-ascend : (i j : ℕ) → i < j → j < length (ranges c) → (nth (ranges c) i).last < (nth (ranges c) j).first
  ranges-ascend i j l h = let p = apart-parted (ranges_apart c) i j l h in omega arith

  -- at least one byte, which is in none of them
  pub ranges-parted : (i j : ℕ) → i < j → j < length (ranges c) → suc (nth (ranges c) i).last < (nth (ranges c) j).first
  ranges-parted = apart-parted (ranges_apart c)

-- ---- no other ranges are so

module _ (r : Range) (rs : List Range) where
  in-first : (b : ℕ) → r.first ≤ b → b ≤ r.last → within (r ∷ rs) b ≡ true
  in-first b h k = rw (le-leb r.first b h, le-leb b r.last k)

  past_first : (b : ℕ) → r.first ≤ b → r.last < b → within (r ∷ rs) b ≡ within rs b
  past_first b h k = rw (le-leb r.first b h, lt-leb b r.last k)

abbrev Alike : List Range → List Range → Type 0
Alike rs qs = (b : ℕ) → within rs b ≡ within qs b

-- of two lists that hold the same bytes, the second begins no later, and its first range ends no later
module _ (r q : Range) (rs qs : List Range) (full : r.first ≤ r.last) (p : Apart (suc (suc r.last)) rs) (full' : q.first ≤ q.last)
    (p' : Apart (suc (suc q.last)) qs) (alike : Alike (r ∷ rs) (q ∷ qs)) where
  begins : q.first ≤ r.first
  begins = go (order r.first q.first)
    where
      go : Order r.first q.first → q.first ≤ r.first
      go (less l) =
          let none : within (q ∷ qs) r.first ≡ false = within-below q.first r.first (apart_cons (omega arith) full' p') l in
          absurd (false≢true (sym none ∙ sym (alike r.first) ∙ in-first r rs r.first (omega arith) full))
      go (equal e) = omega arith
      go (more l) = omega arith

  ends : r.first ≡ q.first → q.last ≤ r.last
  ends e = go (order r.last q.last)
    where
      go : Order r.last q.last → q.last ≤ r.last
      go (less l) =
          let after = suc r.last in
          let none : within (r ∷ rs) after ≡ false = past_first r rs after (omega arith) (omega arith) ∙ within-below (suc (suc r.last)) after p (omega arith) in
          absurd (false≢true (sym none ∙ alike after ∙ in-first q qs after (omega arith) (omega arith)))
      go (equal e) = omega arith
      go (more l) = omega arith

  rests : r.first ≡ q.first → r.last ≡ q.last → Alike rs qs
  rests e f b = go (order b (suc (suc r.last)))
    where
      past : suc (suc r.last) ≤ b → within rs b ≡ within qs b
      past h = sym (past_first r rs b (omega arith) (omega arith)) ∙ alike b ∙ past_first q qs b (omega arith) (omega arith)

      go : Order b (suc (suc r.last)) → within rs b ≡ within qs b
      go (less l) = within-below (suc (suc r.last)) b p l ∙ sym (within-below (suc (suc q.last)) b p' (omega arith))
      go (equal e) = past (omega arith)
      go (more l) = past (omega arith)

apart-unique : {low high : ℕ} {rs qs : List Range} → Apart low rs → Apart high qs → Alike rs qs → rs ≡ qs
apart-unique apart-nil apart-nil alike = refl
apart-unique apart-nil (apart_cons {r = q} {rs = qs} a b p) alike = absurd (false≢true (alike q.first ∙ in-first q qs q.first (omega arith) b))
apart-unique (apart_cons {r = r} {rs = rs} a b p) apart-nil alike = absurd (false≢true (sym (alike r.first) ∙ in-first r rs r.first (omega arith) b))
apart-unique (apart_cons {r = r} {rs = rs} a b p) (apart_cons {r = q} {rs = qs} a' b' p') alike =
    let back : Alike (q ∷ qs) (r ∷ rs) = λ x. sym (alike x) in
    let f : r.first ≡ q.first = omega (arith, begins r q rs qs b p b' p' alike, begins q r qs rs b' p' b p back) in
    let l : r.last ≡ q.last = omega (arith, ends r q rs qs b p b' p' alike f, ends q r qs rs b' p' b p back (sym f)) in
    let same : r ≡ q
    = ap (λ (x : ℕ). record { first = x; last = r.last }) f ∙ ap (λ (x : ℕ). record { first = q.first; last = x }) l in
    let others : rs ≡ qs = apart-unique p p' (rests r q rs qs b p b' p' alike f l) in
    cc

pub ranges-unique : (c : Class) {rs : List Range} → Apart 0 rs → ((b : ℕ) → within rs b ≡ has c b) → rs ≡ ranges c
ranges-unique c p f = apart-unique p (ranges_apart c) (λ b. f b ∙ sym (within_has c b))
