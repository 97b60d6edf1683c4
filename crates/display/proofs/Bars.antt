-- The text of a class, range by range, as a slice of its ranges holds them. Assumes nothing.
use mathlib.Core.Path.{◌≡◌, ap, ◌∙◌, sym}
use mathlib.Core.List.{List, [], ◌∷◌, ◌++◌, map}
use Prim.Native.Nat.{ℕ, ◌+◌, ◌-◌, ◌≤◌, ◌<◌}
use native.Mathlib.Omega.{arith}
use lib.ListN.{length, get_or, take, drop}
use lib.Seq.{take_all}
use Rattle.texts.specs.Text.{bytes, after, joined}
use Rattle.texts.proofs.Joins.{joined-none, after_next, after_none}
use Rattle.classes.specs.Classes.{Class, Range, ranges}
use Rattle.classes.specs.ClassAnswers.{no_range}
use Rattle.display.specs.Display.{range_text, class_text}

abbrev pub ranged : Range → List ℕ
ranged r = range_text r.first r.last

-- ranges from number i on, each with a bar before it
unfoldable pub barred : List Range → ℕ → List ℕ
barred rs i = after (bytes "|") (map ranged (drop i rs))

-- all ranges but the first
abbrev pub others : List Range → List Range
others rs = take (length rs - 1) (drop 1 rs)

pub class-none : (c : Class) (rs : List Range) → rs ≡ ranges c → length rs < 1 → class_text c ≡ []
unfolding class_text
class-none c rs e h = ap (λ (l : List Range). joined (bytes "|") (map ranged l)) (sym e) ∙ joined-none (bytes "|") ranged rs (omega arith)

pub class-first : (c : Class) (rs : List Range) → rs ≡ ranges c → 1 ≤ length rs → class_text c ≡ ranged (get_or rs 0 no_range) ++ barred (others rs) 0
unfolding class_text barred
class-first c rs e h = ap (λ (l : List Range). joined (bytes "|") (map ranged l)) (sym e) ∙ go rs h
  where
    go : (l : List Range) → 1 ≤ length l → joined (bytes "|") (map ranged l) ≡ ranged (get_or l 0 no_range) ++ after (bytes "|") (map ranged (others l))
    go [] h = absurd (omega arith)
    go (r ∷ l) h = ap (λ (k : List Range). ranged r ++ after (bytes "|") (map ranged k)) (sym (take_all (length (r ∷ l) - 1) l (omega arith)))

pub barred-next : (rs : List Range) (i : ℕ) → i < length rs → barred rs i ≡ (bytes "|" ++ ranged (get_or rs i no_range)) ++ barred rs (i + 1)
unfolding barred
barred-next rs i h = after_next (bytes "|") ranged rs no_range i h

pub barred-none : (rs : List Range) (i : ℕ) → length rs ≤ i → barred rs i ≡ []
unfolding barred
barred-none rs i h = after_none (bytes "|") ranged rs i h
