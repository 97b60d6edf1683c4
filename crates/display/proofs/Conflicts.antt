-- The line of a conflict: kind, then leaf by leaf. Assumes nothing.
use mathlib.Core.Path.{◌≡◌, refl, sym, ap, ◌∙◌}
use mathlib.Core.Bool.{true}
use mathlib.Core.List.{List, [], ◌++◌, map}
use mathlib.Core.Logic.{◌⊎◌, inl, inr}
use Prim.Native.Nat.{ℕ, ◌+◌, ◌-◌, ◌*◌, ◌≤◌, ◌<◌}
use native.Mathlib.Omega.{arith}
use borrow.Author.Tests.{leb-true}
use lib.Dec.{leb}
use lib.ListN.{length, get_or, take, drop, length-append, length-drop, length-take, get_or-eq_default}
use lib.Seq.{length-take-le, get_or-take, get_or-drop, take_at, take-length}
use Rattle.lists.proofs.Bools.{and_both, lt-or-le}
use Rattle.texts.specs.Text.{bytes, decimal, after}
use Rattle.texts.proofs.Joins.{after-size, after_next, after_none}
use Rattle.texts.proofs.Decimals.{decimal-size}
use Rattle.graph_rules.specs.Build.{Error, no_universal_start, empty_match, disambiguation, error_words}
use Rattle.display.specs.Display.{line_of, conflict_line}
use Rattle.display.specs.Answers.{error_fits}

module _ (w : List ℕ) where
  -- the leaves of the conflict that the words begin with
  abbrev leaves : List ℕ
  leaves = take (get_or w 1 0) (drop 2 w)

  -- the leaves from number i on, each after a space
  unfoldable pub spaced : ℕ → List ℕ
  spaced i = after (bytes " ") (map decimal (drop i (take (get_or w 1 0) (drop 2 w))))

  pub line_first : line_of w ≡ (bytes "error " ++ decimal (get_or w 0 0)) ++ spaced 0
  unfolding line_of spaced
  line_first = refl

  module _ (fits : error_fits w ≡ true) where
    pub error-long : 2 + get_or w 1 0 ≤ length w
    unfolding error_fits
    error-long = leb-true (2 + get_or w 1 0) (length w) (and_both (leb 2 (length w)) _ fits).1

    count : length leaves ≡ get_or w 1 0
    count = length-take-le (get_or w 1 0) (drop 2 w) (let e = length-drop 2 w in let l = error-long in omega arith)

    -- the leaves as a slice of the words
    items : take (2 + get_or w 1 0 - 2) (drop 2 w) ≡ leaves
    items = ap (λ (k : ℕ). take k (drop 2 w)) (omega arith)

    pub items-count : length (take (2 + get_or w 1 0 - 2) (drop 2 w)) ≡ get_or w 1 0
    items-count = ap length items ∙ count

    pub spaced-items : (i : ℕ) → i < get_or w 1 0 → spaced i ≡ (bytes " " ++ decimal (get_or (take (2 + get_or w 1 0 - 2) (drop 2 w)) i 0)) ++ spaced (i + 1)
    unfolding spaced
    spaced-items i h =
        after_next (bytes " ") decimal leaves 0 i (let c = count in omega arith)
        ∙ ap (λ (l : List ℕ). (bytes " " ++ decimal (get_or l i 0)) ++ spaced (i + 1)) (sym items)

    pub spaced-none : (i : ℕ) → get_or w 1 0 ≤ i → spaced i ≡ []
    unfolding spaced
    spaced-none i h = after_none (bytes " ") decimal leaves i (let c = count in omega arith)

-- ---- how long it is at most, of words of 16 bits

word_size : (x : ℕ) → x < 65536 → length (decimal x) ≤ 5
word_size x h = decimal-size 5 x (omega arith) (omega arith)

module _ (w : List ℕ) (small : (i : ℕ) → get_or w i 0 < 65536) where
  leaf-small : (i : ℕ) → get_or (leaves w) i 0 < 65536
  leaf-small i = go (lt-or-le i (get_or w 1 0))
    where
      go : (i < get_or w 1 0) ⊎ (get_or w 1 0 ≤ i) → get_or (leaves w) i 0 < 65536
      go (inl h) = let b = small (2 + i) in omega (arith, get_or-take (get_or w 1 0) (drop 2 w) i 0 h, get_or-drop 2 w i 0)
      go (inr h) =
          let n = length-take (get_or w 1 0) (drop 2 w) in
          let e : get_or (leaves w) i 0 ≡ 0 = get_or-eq_default (leaves w) 0 (omega arith) in
          omega arith

  pub line-size : length (line_of w) ≤ 11 + 6 * get_or w 1 0
  unfolding spaced
  line-size =
      let e = ap length (line_first w) in
      let n = length-append (decimal (get_or w 0 0)) (spaced w 0) in
      let d = word_size (get_or w 0 0) (small 0) in
      let l = after-size (bytes " ") decimal 5 0 (leaves w) (λ i h. word_size (get_or (leaves w) i 0) (leaf-small i)) in
      let t = length-take (get_or w 1 0) (drop 2 w) in
      omega arith

-- ---- the line of a conflict

-- what stands after a conflict's words does not show
pub line-of-error : (e : Error) (rest : List ℕ) → line_of (error_words e ++ rest) ≡ conflict_line e
unfolding line_of conflict_line
line-of-error no_universal_start rest = refl
line-of-error (empty_match l) rest = refl
line-of-error (disambiguation ls) rest =
    ap (λ (l : List ℕ). (bytes "error " ++ decimal 2) ++ after (bytes " ") (map decimal l)) (take_at ls rest (length ls) refl ∙ sym (take-length ls))
