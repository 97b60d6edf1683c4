-- The rules of the lead bytes, at all 256 of them: each is one test, which antt computes. Assumes nothing.
use mathlib.Core.Path.{◌≡◌, refl, ap, ◌∙◌}
use mathlib.Core.Bool.{Bool, true, false, not, ◌&&◌, ◌||◌, false≢true}
use mathlib.Core.List.{List, [], ◌∷◌, ◌++◌}
use Prim.Native.Nat.{ℕ, zero, suc, ◌<◌, ◌≤◌}
use native.Mathlib.Omega.{arith}
use lib.Dec.{eqb, leb}
use lib.ListN.{length, get_or, replicate}
use borrow.Author.Tests.{eq-eqb, eqb-true, leb-true}
use Rattle.lists.specs.Lists.{tab, all_l, eq_list}
use Rattle.lists.proofs.Bools.{and_both, and_intro, implied}
use Rattle.lists.proofs.Any.{any_found}
use Rattle.lists.proofs.Elements.{Sound, list-sound, all-at}
use Rattle.lists.proofs.Intervals.{from, all_from}
use Rattle.utf8.specs.Utf8.{Range, span, within, trail, lines, line_of, width_of, fits_line, admitted}
use Rattle.utf8.specs.Points.{low_of, high_of}

-- ---- the table of widths

unfoldable pub table : List ℕ
table = replicate 128 1 ++ replicate 66 0 ++ replicate 30 2 ++ replicate 16 3 ++ replicate 5 4 ++ replicate 11 0

-- each entry is the width of its line
pub table-right : table ≡ tab 0 256 width_of
unfolding table width_of lines
table-right = refl

-- ---- equality of lines

same_range : Range → Range → Bool
same_range x y = eqb x.low y.low && eqb x.high y.high

range-sound : Sound same_range
unfolding same_range
range-sound = record { eq = eq'; self = λ a. and_intro _ _ (eq-eqb a.low a.low refl) (eq-eqb a.high a.high refl) }
  where
    eq' : (x y : Range) → same_range x y ≡ true → x ≡ y
    eq' x y h =
        let both = and_both _ _ h in
        let low : x.low ≡ y.low = eqb-true _ _ both.0 in
        let high : x.high ≡ y.high = eqb-true _ _ both.1 in
        ap {B = Range} (λ (l : ℕ). span l x.high) low ∙ ap {B = Range} (λ (h : ℕ). span y.low h) high

same_line : List Range → List Range → Bool
same_line = eq_list same_range

same_line_lem : (a b : List Range) → same_line a b ≡ true → a ≡ b
unfolding same_line
same_line_lem = (list-sound same_range range-sound).eq

-- ---- the ranges due after a lead byte: a second byte's, and as many trailing ones as its width says

abbrev pub due_of : ℕ → ℕ → ℕ → List Range
due_of zero low high = []
due_of (suc d) low high = span low high ∷ replicate d trail

-- a line's ranges after the first are those due at a byte
tail_fits : List Range → ℕ → ℕ → Bool
tail_fits [] low high = true
tail_fits (r ∷ rest) low high = same_line rest (due_of (length rest) low high)

lead_fits : ℕ → Bool
lead_fits b = tail_fits (line_of lines b) (low_of b) (high_of b)

all-leads : all_l lead_fits (from 0 256) ≡ true
unfolding lead_fits tail_fits same_line same_range lines
all-leads = refl

pub lead-tail : (b : ℕ) (r : Range) (rest : List Range) → b < 256 → line_of lines b ≡ r ∷ rest → rest ≡ due_of (length rest) (low_of b) (high_of b)
unfolding lead_fits tail_fits
lead-tail b r rest h e = same_line_lem _ _ (rw e at (all_from lead_fits 256 0 all-leads b (omega arith) (omega arith)))

-- ---- a lead byte has one line

high_fits : List Range → Bool
high_fits [] = false
high_fits (r ∷ rest) = leb r.high 255

one_line : ℕ → List Range → Bool
one_line b [] = false
one_line b (r ∷ rest) = not (within r b) || same_line (line_of lines b) (r ∷ rest)

lead_unique : ℕ → Bool
lead_unique b = all_l (one_line b) lines

all-high : all_l high_fits lines ≡ true
unfolding high_fits lines
all-high = refl

all-unique : all_l lead_unique (from 0 256) ≡ true
unfolding lead_unique one_line same_line same_range lines
all-unique = refl

-- a sequence that is admitted begins with a byte, whose line admits it
pub record Led (s : List ℕ) : Type 0 where
  pub byte : ℕ
  pub rest : List ℕ
  pub is : s ≡ byte ∷ rest
  pub first : Range
  pub due : List Range
  pub line : line_of lines byte ≡ first ∷ due
  pub fits : fits_line due rest ≡ true

led-by : (s : List ℕ) (line : List Range) → high_fits line ≡ true → ((b : ℕ) → b < 256 → one_line b line ≡ true) → fits_line line s ≡ true → Led s
unfolding high_fits one_line
led-by s [] high one f = absurd (false≢true high)
led-by [] (r ∷ due) high one f = absurd (false≢true f)
led-by (b ∷ s) (r ∷ due) high one f =
    let both = and_both (within r b) (fits_line due s) f in
    let top : r.high ≤ 255 = leb-true _ _ high in
    let below : b ≤ r.high = leb-true _ _ (and_both (leb r.low b) (leb b r.high) both.0).1 in
    record { byte = b; rest = s; is = refl; first = r; due = due; line = same_line_lem _ _ (implied (within r b) _ (one b (omega arith)) both.0); fits = both.1 }

pub led : (s : List ℕ) → admitted s ≡ true → Led s
unfolding admitted lead_unique
led s h =
    let (i, b, f) = any_found (λ line. fits_line line s) [] lines h in
    led-by s (get_or lines i []) (all-at high_fits lines i [] all-high b)
    (λ k u. all-at (one_line k) lines i [] (all_from lead_unique 256 0 all-unique k (omega arith) (omega arith)) b) f
