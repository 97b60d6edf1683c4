-- The division of a text, a byte at a time: what is left of it, as a loop knows it. Assumes nothing.
use Rattle.std.specs.Prelude.{Option, Some, None}
use mathlib.Core.Path.{◌≡◌, refl, sym, ap, ◌∙◌}
use mathlib.Core.Bool.{Bool, true, false, ◌&&◌, false≢true}
use mathlib.Core.List.{List, [], ◌∷◌}
use Prim.Native.Nat.{ℕ, zero, suc, ◌+◌, ◌-◌, ◌<◌, ◌≤◌}
use native.Mathlib.Nat.{zero-add}
use native.Mathlib.Numerals.{add-one, sub-one}
use native.Mathlib.Omega.{arith}
use lib.Dec.{leb}
use lib.ListN.{length, get_or, drop, replicate, drop_of_length-le}
use lib.Seq.{drop-cons}
use borrow.Author.Tests.{le-leb, lt-leb}
use Rattle.lists.specs.Lists.{tab}
use Rattle.lists.proofs.Bools.{and_intro, and-right-false}
use Rattle.lists.proofs.Elements.{get_or-tab0}
use Rattle.utf8.specs.Utf8.{Range, span, within, trail, lines, line_of, width_of, one_more, divided, code_points}
use Rattle.utf8.specs.Points.{low_of, high_of}
use Rattle.utf8.proofs.LeadBytes.{due_of, lead-tail}
use Rattle.utf8.proofs.Division.{begins, let_through}

-- ---- one byte

-- its entry in the table
pub width-at : (table : List ℕ) → table ≡ tab 0 256 width_of → (b : ℕ) → b < 256 → get_or table b 0 ≡ width_of b
width-at table e b h = rw e (get_or-tab0 256 width_of b 0 h)

held_back : (t : Bool) (o : Option ℕ) → t ≡ false → ◌≡◌ {A = Option ℕ} (elim t as (λ _. Option ℕ) [ true ↦ o | false ↦ None ]) None
held_back true o e = absurd (false≢true (sym e))
held_back false o e = refl

line-leads : (b d : ℕ) (text : List ℕ) (l : List Range) → b < 256 → line_of lines b ≡ l → length l ≡ suc d
    → divided [] (b ∷ text) ≡ one_more (divided (due_of d (low_of b) (high_of b)) text)
line-leads b d text [] h e n = absurd (omega arith)
line-leads b d text (r ∷ rest) h e n =
    let same : length rest ≡ d = omega arith in
    begins b text r rest e
    ∙ ap {B = Option ℕ} (λ (due : List Range). one_more (divided due text)) (lead-tail b r rest h e ∙ ap {B = List Range} (λ (m : ℕ). due_of m (low_of b) (high_of b)) same)

lead-byte : (b d : ℕ) (text : List ℕ) → b < 256 → width_of b ≡ suc d → divided [] (b ∷ text) ≡ one_more (divided (due_of d (low_of b) (high_of b)) text)
unfolding width_of
lead-byte b d text h e = line-leads b d text (line_of lines b) h refl e

none-leads : (b : ℕ) (text : List ℕ) (l : List Range) → line_of lines b ≡ l → length l ≡ 0 → divided [] (b ∷ text) ≡ None
unfolding divided
none-leads b text [] e n = rw (e, divided)
none-leads b text (r ∷ rest) e n = absurd (omega arith)

no_lead : (b : ℕ) (text : List ℕ) → width_of b ≡ 0 → divided [] (b ∷ text) ≡ None
unfolding width_of
no_lead b text e = none-leads b text (line_of lines b) refl e

in-range : (b d low high : ℕ) (text : List ℕ) → low ≤ b → b ≤ high → divided (due_of (suc d) low high) (b ∷ text) ≡ divided (due_of d 0x80 0xBF) text
unfolding divided
in-range b zero low high text l h = let_through (within (span low high) b) (divided [] text) (and_intro _ _ (le-leb _ _ l) (le-leb _ _ h))
in-range b (suc d) low high text l h = let_through (within (span low high) b) (divided (trail ∷ replicate d trail) text) (and_intro _ _ (le-leb _ _ l) (le-leb _ _ h))

below-range : (b d low high : ℕ) (text : List ℕ) → b < low → divided (due_of (suc d) low high) (b ∷ text) ≡ None
unfolding divided
below-range b d low high text l = held_back (within (span low high) b) (divided (replicate d trail) text) (ap (λ (t : Bool). t && leb b high) (lt-leb _ _ l))

above-range : (b d low high : ℕ) (text : List ℕ) → high < b → divided (due_of (suc d) low high) (b ∷ text) ≡ None
unfolding divided
above-range b d low high text h = held_back (within (span low high) b) (divided (replicate d trail) text) (and-right-false (leb low b) _ (lt-leb _ _ h))

-- ---- the loop: n sequences have begun before index i, and `due` bytes of the last are still to come, the next of them in low..high

abbrev pub plus : ℕ → Option ℕ → Option ℕ
plus n None = None
plus n (Some m) = Some (n + m)

plus-zero : (o : Option ℕ) → plus 0 o ≡ o
plus-zero None = refl
plus-zero (Some m) = ap {B = Option ℕ} Some (zero-add m)

plus-more : (n : ℕ) (o : Option ℕ) → plus n (one_more o) ≡ plus (n + 1) o
plus-more n None = refl
plus-more n (Some m) = ap {B = Option ℕ} Some (omega arith)

unfoldable pub Left : List ℕ → ℕ → ℕ → ℕ → ℕ → ℕ → Type 0
Left text n due low high i = code_points text ≡ plus n (divided (due_of due low high) (drop i text))

module _ (text : List ℕ) where
  pub left-start : Left text 0 0 0x80 0xBF 0
  unfolding Left code_points
  left-start = sym (plus-zero _)

  module _ (n low high i : ℕ) (inside : i < length text) where
    -- the byte at i is the next
    next-byte : (due : ℕ) → Left text n due low high i → code_points text ≡ plus n (divided (due_of due low high) (get_or text i 0 ∷ drop (suc i) text))
    unfolding Left
    next-byte due l = l ∙ ap {B = Option ℕ} (λ (r : List ℕ). plus n (divided (due_of due low high) r)) (drop-cons text i 0 inside)

    pub left-lead : (due : ℕ) → due ≡ 0 → Left text n due low high i → get_or text i 0 < 256 → (width_of (get_or text i 0) ≡ 0 → ⊥)
        → Left text (n + 1) (width_of (get_or text i 0) - 1) (low_of (get_or text i 0)) (high_of (get_or text i 0)) (i + 1)
    unfolding Left
    left-lead zero e l b w =
        let b0 = get_or text i 0 in
        let d = width_of b0 - 1 in
        next-byte 0 l
        ∙ ap {B = Option ℕ} (plus n) (lead-byte b0 d (drop (suc i) text) b (omega arith))
        ∙ plus-more n (divided (due_of d (low_of b0) (high_of b0)) (drop (suc i) text))
        ∙ ap {B = Option ℕ} (λ (k : ℕ). plus (n + 1) (divided (due_of d (low_of b0) (high_of b0)) (drop k text))) (sym (add-one i))
    left-lead (suc d) e l b w = absurd (omega arith)

    pub left-no-lead : (due : ℕ) → due ≡ 0 → Left text n due low high i → width_of (get_or text i 0) ≡ 0 → code_points text ≡ None
    left-no-lead zero e l w = next-byte 0 l ∙ ap {B = Option ℕ} (plus n) (no_lead (get_or text i 0) (drop (suc i) text) w)
    left-no-lead (suc d) e l w = absurd (omega arith)

    pub left-trail : (due : ℕ) → (due ≡ 0 → ⊥) → Left text n due low high i → low ≤ get_or text i 0 → get_or text i 0 ≤ high
        → Left text n (due - 1) 0x80 0xBF (i + 1)
    unfolding Left
    left-trail zero e l lo hi = absurd (e refl)
    left-trail (suc d) e l lo hi =
        let step = next-byte (suc d) l ∙ ap {B = Option ℕ} (plus n) (in-range (get_or text i 0) d low high (drop (suc i) text) lo hi) in
        rw (sub-one, add-one) step

    pub left_below : (due : ℕ) → (due ≡ 0 → ⊥) → Left text n due low high i → get_or text i 0 < low → code_points text ≡ None
    left_below zero e l lo = absurd (e refl)
    left_below (suc d) e l lo = next-byte (suc d) l ∙ ap {B = Option ℕ} (plus n) (below-range (get_or text i 0) d low high (drop (suc i) text) lo)

    pub left-above : (due : ℕ) → (due ≡ 0 → ⊥) → Left text n due low high i → high < get_or text i 0 → code_points text ≡ None
    left-above zero e l hi = absurd (e refl)
    left-above (suc d) e l hi = next-byte (suc d) l ∙ ap {B = Option ℕ} (plus n) (above-range (get_or text i 0) d low high (drop (suc i) text) hi)

  pub left_end : (n due low high i : ℕ) → due ≡ 0 → Left text n due low high i → length text ≤ i → code_points text ≡ Some n
  unfolding Left divided
  left_end n zero low high i e l h = l ∙ ap {B = Option ℕ} (λ (r : List ℕ). plus n (divided [] r)) (drop_of_length-le text h) ∙ ap {B = Option ℕ} Some (omega arith)
  left_end n (suc d) low high i e l h = absurd (omega arith)

  pub left-short : (n due low high i : ℕ) → (due ≡ 0 → ⊥) → Left text n due low high i → length text ≤ i → code_points text ≡ None
  unfolding Left divided
  left-short n zero low high i e l h = absurd (e refl)
  left-short n (suc d) low high i e l h = l ∙ ap {B = Option ℕ} (λ (r : List ℕ). plus n (divided (due_of (suc d) low high) r)) (drop_of_length-le text h)
