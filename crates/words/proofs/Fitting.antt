-- Refusal 12 by single words: every target is judged where it stands. Assumes nothing.
use mathlib.Core.Path.{◌≡◌, refl, sym, ap, ◌∙◌}
use mathlib.Core.Bool.{Bool, true, false, ◌&&◌, ◌||◌}
use mathlib.Core.List.{List, []}
use Prim.Native.Nat.{ℕ, zero, suc, zero-le, ◌≤◌, ◌<◌}
use native.Mathlib.Omega.{arith}
use borrow.Author.Tests.{lt-leb, le-leb, le-ltb, ne_eqb}
use lib.Dec.{eqb, leb, ltb}
use lib.ListN.{length, get_or, take, drop, length-drop}
use lib.Seq.{length-take-le, get_or-take}
use Rattle.lists.specs.Lists.{all_l, pieces}
use Rattle.lists.proofs.Bools.{and-right-false, or-false}
use Rattle.lists.proofs.Intervals.{from, all-placed}
use Rattle.lists.proofs.Pieces.{pieces-length, pieces-width, piece-word}
use Rattle.graph_rules.specs.Graph.{target_fits, row_fits, root_fits, graph_fits}
use Rattle.graph_rules.specs.Layout.{step_count, most_states, row_words, graph_place, graph_size}

module _ (w : List ℕ) (n : ℕ) (long : graph_size n ≤ length w) where
  abbrev rows : List (List ℕ)
  rows = pieces row_words n (drop 2 w)

  row_word : (i c : ℕ) → i < n → c < step_count → get_or (take step_count (get_or rows i [])) c 0 ≡ get_or w (graph_place i c) 0
  row_word i c h b = get_or-take step_count (get_or rows i []) c 0 b ∙ piece-word w 2 row_words n i c 0 h (omega arith)

  row-width : (i : ℕ) → i < n → length (take step_count (get_or rows i [])) ≡ step_count
  row-width i h =
      let l : length (get_or rows i []) ≡ row_words = pieces-width row_words n (drop 2 w) (simp length-drop (omega arith)) i h in
      length-take-le step_count (get_or rows i []) (omega arith)

  pub row-judged : (s : ℕ) → s < n → all_l (λ c. target_fits n (get_or w (graph_place s c) 0)) (from 0 step_count) ≡ row_fits n (get_or rows s [])
  row-judged s h =
      all-placed (target_fits n) (take step_count (get_or rows s [])) 0 _ step_count (row-width s h) (λ c b. ap (target_fits n) (sym (row_word s c h b)))

  pub rows-judged : all_l (λ s. row_fits n (get_or rows s [])) (from 0 n) ≡ all_l (row_fits n) rows
  rows-judged = all-placed (row_fits n) rows [] _ n (pieces-length row_words n (drop 2 w)) (λ s h. refl)

-- ---- 12, condition by condition, as the code reads the count n and the root

module _ (w : List ℕ) where
  pub unfit-short : length w < 2 → graph_fits w ≡ false
  unfolding graph_fits
  unfit-short h = rw (lt-leb 2 (length w) h)

module _ (w : List ℕ) (n : ℕ) (e : n ≡ get_or w 0 0) where
  abbrev tests : ℕ → Bool
  tests n = leb 2 (length w) && (leb (graph_size n) (length w) && (leb n most_states && (all_l (row_fits n) (pieces row_words n (drop 2 w)) && root_fits n (get_or w 1 0))))

  fits-is : graph_fits w ≡ tests n
  unfolding graph_fits
  fits-is = ap tests (sym e)

  pub unfit-long : length w < graph_size n → graph_fits w ≡ false
  unfit-long h = fits-is ∙ and-right-false (leb 2 (length w)) _ (rw (lt-leb (graph_size n) (length w) h))

  pub unfit-many : most_states < n → graph_fits w ≡ false
  unfit-many h = fits-is ∙ and-right-false (leb 2 (length w)) _ (and-right-false (leb (graph_size n) (length w)) _ (rw (lt-leb n most_states h)))

  pub unfit-target : all_l (row_fits n) (pieces row_words n (drop 2 w)) ≡ false → graph_fits w ≡ false
  unfit-target h =
      fits-is
      ∙ and-right-false (leb 2 (length w)) _ (and-right-false (leb (graph_size n) (length w)) _ (and-right-false (leb n most_states) _ (rw h)))

  module _ (two : 2 ≤ length w) (long : graph_size n ≤ length w) (few : n ≤ most_states) (rows : all_l (row_fits n) (pieces row_words n (drop 2 w)) ≡ true)
      (root : ℕ) (at : root ≡ get_or w 1 0) where
    fits-root : graph_fits w ≡ root_fits n root
    fits-root =
        fits-is
        ∙ rw (le-leb 2 (length w) two) (rw (le-leb (graph_size n) (length w) long) (rw (le-leb n most_states few) (rw rows (ap (root_fits n) (sym at)))))

    pub fits-none : n ≡ 0 → graph_fits w ≡ eqb root 0
    fits-none z = fits-root ∙ go n z
      where
        go : (n : ℕ) → n ≡ 0 → root_fits n root ≡ eqb root 0
        go zero z = ap (λ (b : Bool). b || (true && eqb root 0)) (le-ltb root 0 zero-le)
        go (suc n) z = absurd (omega arith)

    pub fits-some : (n ≡ 0 → ⊥) → graph_fits w ≡ ltb root n
    fits-some f = fits-root ∙ rw (ne_eqb n 0 f) (or-false (ltb root n))
