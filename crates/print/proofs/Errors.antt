-- Conflicts' words one after another, and their lines: one at a time, how long they are at most, and those of a build. Assumes nothing.
use mathlib.Core.Path.{◌≡◌, refl, ap, subst, ◌∙◌}
use mathlib.Core.Bool.{true}
use mathlib.Core.List.{List, [], ◌∷◌, ◌++◌, flat_map, append_assoc}
use Prim.Native.Nat.{ℕ, zero, suc, ◌+◌, ◌-◌, ◌*◌, ◌≤◌, ◌<◌}
use native.Mathlib.Omega.{arith}
use borrow.Author.Tests.{le-leb}
use lib.ListN.{length, get_or, take, drop, length-append, length-drop}
use lib.Seq.{get_or-drop, drop_at}
use Rattle.lists.proofs.Bools.{and_both, and_intro}
use Rattle.std.proofs.lemmas.List.{take_rest}
use Rattle.texts.specs.Text.{bytes, Wrote, Counts}
use Rattle.texts.proofs.Writing.{Underway, goes, underway-as, part-counts}
use Rattle.graph_rules.specs.Build.{Error, no_universal_start, empty_match, disambiguation, error_words}
use Rattle.display.specs.Display.{line_of, conflict_line}
use Rattle.display.specs.Answers.{error_fits}
use Rattle.display.proofs.Conflicts.{error-long, line-size, line-of-error}
use Rattle.print.specs.Print.{line}
use Rattle.print.specs.Parts.{later, errors_fit, error_lines}

-- ---- the first of k conflicts, and the rest

pub lines_next : (k : ℕ) (w : List ℕ) → 0 < k → error_lines k w ≡ line (line_of w) ++ error_lines (k - 1) (later w)
unfolding error_lines
lines_next zero w h = absurd (omega arith)
lines_next (suc k) w h = let e : k ≡ suc k - 1 = omega arith in ap (λ (n : ℕ). line (line_of w) ++ error_lines n (later w)) e

pub lines_none : (k : ℕ) (w : List ℕ) → k ≤ 0 → error_lines k w ≡ []
unfolding error_lines
lines_none zero w h = refl
lines_none (suc k) w h = absurd (omega arith)

pub fit_next : (k : ℕ) (w : List ℕ) → 0 < k → errors_fit k w ≡ true → (error_fits w ≡ true) × (errors_fit (k - 1) (later w) ≡ true)
unfolding errors_fit
fit_next zero w h f = absurd (omega arith)
fit_next (suc k) w h f =
    let b = and_both (error_fits w) _ f in
    let e : k ≡ suc k - 1 = omega arith in
    (b.0, subst (λ (n : ℕ). errors_fit n (later w) ≡ true) e b.1)

-- ---- six bytes a word

pub lines-size : (k : ℕ) (w : List ℕ) → ((i : ℕ) → get_or w i 0 < 65536) → errors_fit k w ≡ true → length (error_lines k w) ≤ 6 * length w
unfolding error_lines errors_fit
lines-size zero w small f = omega arith
lines-size (suc k) w small f =
    let b = and_both (error_fits w) _ f in
    let i = lines-size k (later w) (λ i. omega (arith, get_or-drop (2 + get_or w 1 0) w i 0, small (2 + get_or w 1 0 + i))) b.1 in
    let l = error-long w b.0 in
    let s = line-size w small in
    let d = length-drop (2 + get_or w 1 0) w in
    let n = length-append (line_of w) (bytes "\n") in
    let m = length-append (line (line_of w)) (error_lines k (later w)) in
    omega arith

-- ---- the conflicts of a build, whatever stands after their words

fits-long : (w : List ℕ) → 2 ≤ length w → 2 + get_or w 1 0 ≤ length w → error_fits w ≡ true
unfolding error_fits
fits-long w h k = and_intro _ _ (le-leb 2 (length w) h) (le-leb (2 + get_or w 1 0) (length w) k)

error-fits : (e : Error) (rest : List ℕ) → error_fits (error_words e ++ rest) ≡ true
error-fits no_universal_start rest = fits-long (0 ∷ 0 ∷ rest) (omega arith) (omega arith)
error-fits (empty_match l) rest = fits-long (1 ∷ 1 ∷ l ∷ rest) (omega arith) (omega arith)
error-fits (disambiguation ls) rest =
    let n = length-append ls rest in
    fits-long (2 ∷ length ls ∷ (ls ++ rest)) (omega arith) (omega arith)

error-later : (e : Error) (rest : List ℕ) → later (error_words e ++ rest) ≡ rest
error-later no_universal_start rest = refl
error-later (empty_match l) rest = refl
error-later (disambiguation ls) rest =
    let e : 2 + length ls ≡ suc (suc (length ls)) = omega arith in
    ap (λ (k : ℕ). drop k (2 ∷ length ls ∷ (ls ++ rest))) e ∙ drop_at ls rest (length ls) refl

pub listed-fit : (es : List Error) (rest : List ℕ) → errors_fit (length es) (flat_map error_words es ++ rest) ≡ true
unfolding errors_fit flat_map
listed-fit [] rest = refl
listed-fit (e ∷ es) rest =
    let more = flat_map error_words es ++ rest in
    rw (append_assoc (error_words e) (flat_map error_words es) rest)
    (and_intro _ _ (error-fits e more) (rw (error-later e more) (listed-fit es rest)))

pub listed-lines : (es : List Error) (rest : List ℕ)
    → error_lines (length es) (flat_map error_words es ++ rest) ≡ flat_map (λ e. line (conflict_line e)) es
unfolding error_lines flat_map
listed-lines [] rest = refl
listed-lines (e ∷ es) rest =
    let more = flat_map error_words es ++ rest in
    rw (append_assoc (error_words e) (flat_map error_words es) rest)
    (rw (line-of-error e more, error-later e more, listed-lines es rest))

-- ---- the first of k conflicts is written, and the words after it are left

module _ (k m : ℕ) (w : List ℕ) (some : 0 < k) (fewer : m ≡ k - 1) where
  left-over : take (length w - (2 + get_or w 1 0)) (drop (2 + get_or w 1 0) w) ≡ later w
  left-over = take_rest w (2 + get_or w 1 0)

  pub rest-fits : errors_fit k w ≡ true → errors_fit m (take (length w - (2 + get_or w 1 0)) (drop (2 + get_or w 1 0) w)) ≡ true
  rest-fits f = rw (left-over, fewer) (fit_next k w some f).1

  pub rest-goes : {found total mid out : List ℕ} {at next end : ℕ} → Underway found at total (error_lines k w) mid next → Wrote mid next (line (line_of w)) out end
      → Underway found at total (error_lines m (take (length w - (2 + get_or w 1 0)) (drop (2 + get_or w 1 0) w))) out end
  rest-goes u a =
      underway-as (let e : error_lines (k - 1) (later w) ≡ error_lines m (take (length w - (2 + get_or w 1 0)) (drop (2 + get_or w 1 0) w)) = rw (left-over, fewer) in e)
      (goes (line (line_of w)) (error_lines (k - 1) (later w)) (underway-as (lines_next k w some) u) a)

  pub line-counts : {found total mid : List ℕ} {at next : ℕ} → Underway found at total (error_lines k w) mid next → Counts at total → Counts next (line (line_of w))
  line-counts u h = part-counts (line (line_of w)) (error_lines (k - 1) (later w)) (underway-as (lines_next k w some) u) h
