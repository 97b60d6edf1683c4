-- The text of a class has at most seven bytes for each of its own. Assumes nothing.
use Rattle.std.specs.Prelude.{Option, Some, None}
use mathlib.Core.Path.{◌≡◌, refl, ap}
use mathlib.Core.Bool.{Bool, true, false, ◌&&◌}
use mathlib.Core.List.{List, [], ◌∷◌, ◌++◌, map}
use Prim.Native.Nat.{ℕ, suc, ◌+◌, ◌*◌, ◌≤◌}
use native.Mathlib.Omega.{arith}
use borrow.Author.Tests.{eqb-true, eqb-false}
use lib.Dec.{eqb, leb}
use lib.ListN.{length, length-append}
use Rattle.lists.specs.Sets.{count}
use Rattle.lists.proofs.Bools.{Is, is, yes-is, no-is}
use Rattle.texts.specs.Text.{bytes, after, joined}
use Rattle.classes.specs.Classes.{Class, Range, widen, ranges_from, ranges}
use Rattle.display.specs.Display.{letter_of, escaped_by, escaped, range_text, class_text}
use Rattle.display.proofs.Escapes.{range-one, range-two}

pub escaped-size : (b : ℕ) → length (escaped b) ≤ 4
unfolding escaped
escaped-size b = go (letter_of b) (leb 32 b && leb b 126) refl
  where
    go : (o : Option ℕ) (t : Bool) → (leb 32 b && leb b 126) ≡ t → length (escaped_by o b) ≤ 4
    go (Some l) t q = omega arith
    go None true q = rw q (omega arith)
    go None false q = rw q (omega arith)

-- the length of a range's text, by its two ways
data Ways (first last : ℕ) : Type 0 where
  single : first ≡ last → length (range_text first last) ≡ length (escaped first) → Ways first last
  double : (first ≡ last → ⊥) → length (range_text first last) ≡ length (escaped first) + (3 + length (escaped last)) → Ways first last

ways : (first last : ℕ) → Ways first last
ways first last = go (is (eqb first last))
  where
    go : Is (eqb first last) → Ways first last
    go (yes-is q) = single (eqb-true first last q) (ap length (range-one first last (eqb-true first last q)))
    go (no-is q) =
        let e = ap length (range-two first last (eqb-false first last q)) in
        let n = length-append (escaped first) (bytes "..=" ++ escaped last) in
        double (eqb-false first last q) (omega arith)

-- the lengths of the ranges' texts, and one for each
abbrev spread : List Range → ℕ
spread [] = 0
spread (r ∷ rs) = suc (length (range_text r.first r.last)) + spread rs

-- one byte in front: a range of its own, or a longer first one
longer : (b first last : ℕ) → length (range_text b last) ≤ length (range_text first last) + 7
longer b first last = go (ways b last) (ways first last)
  where
    go : Ways b last → Ways first last → length (range_text b last) ≤ length (range_text first last) + 7
    go (single e n) w = let i = escaped-size b in omega arith
    go (double e n) (single f m) = let i = escaped-size b in let j : length (escaped first) ≡ length (escaped last) = ap (λ (x : ℕ). length (escaped x)) f in omega arith
    go (double e n) (double f m) = let i = escaped-size b in omega arith

widen-spread : (b : ℕ) (rs : List Range) → spread (widen b rs) ≤ spread rs + 7
widen-spread b [] = let i = escaped-size b in let e = ap length (range-one b b refl) in omega arith
widen-spread b (r ∷ rs) = go (is (eqb r.first (suc b)))
  where
    go : Is (eqb r.first (suc b)) → spread (widen b (r ∷ rs)) ≤ spread (r ∷ rs) + 7
    go (yes-is q) = rw q (let i = longer b r.first r.last in omega arith)
    go (no-is q) = rw q (let i = escaped-size b in let e = ap length (range-one b b refl) in omega arith)

ranges-spread : (b : ℕ) (c : List Bool) → spread (ranges_from b c) ≤ 7 * count c
ranges-spread b [] = omega arith
ranges-spread b (true ∷ c) = let i = widen-spread b (ranges_from (suc b) c) in let j = ranges-spread (suc b) c in omega arith
ranges-spread b (false ∷ c) = ranges-spread (suc b) c

abbrev ranged : Range → List ℕ
ranged r = range_text r.first r.last

after-spread : (rs : List Range) → length (after (bytes "|") (map ranged rs)) ≤ spread rs
after-spread [] = omega arith
after-spread (r ∷ rs) =
    let i = after-spread rs in
    let e = length-append (ranged r) (after (bytes "|") (map ranged rs)) in
    omega arith

joined-spread : (rs : List Range) → length (joined (bytes "|") (map ranged rs)) ≤ spread rs
joined-spread [] = omega arith
joined-spread (r ∷ rs) =
    let i = after-spread rs in
    let e = length-append (ranged r) (after (bytes "|") (map ranged rs)) in
    omega arith

pub class-size : (c : Class) → length (class_text c) ≤ 7 * count c
unfolding class_text ranges
class-size c = let i = joined-spread (ranges c) in let j = ranges-spread 0 c in omega arith
