-- A pass over the states of a graph's words that rewrites their marks words one after another (rules 5 and 6): what has been passed has its new
-- marks, all else is as it was. Assumes nothing.
use Rattle.std.specs.Prelude.{Option, unwrap_or}
use mathlib.Core.Path.{◌≡◌, refl, sym, ap, ◌∙◌}
use mathlib.Core.Bool.{true}
use mathlib.Core.List.{List, ◌++◌}
use Prim.Native.Nat.{ℕ, ◌+◌, ◌≤◌, ◌<◌}
use native.Mathlib.Nat.{not-suc-le-zero}
use native.Mathlib.Omega.{arith}
use borrow.Author.Count.{below_more}
use lib.ListN.{length, get_or, set, drop, length-set}
use lib.Seq.{get_or-set_same, get_or-set_other}
use Rattle.lists.proofs.Buffers.{same_after}
use Rattle.graph_rules.specs.Graph.{Graph, to, accept_of, early_of, graph_from, graph_fits, graph_buffer}
use Rattle.graph_rules.proofs.Fits.{Fits}
use Rattle.graph_rules.proofs.Taken.{taken-long, taken-few, taken-root, taken-target}
use Rattle.words.proofs.GraphWords.{words-fit, target_is}
use Rattle.words.proofs.Buffers.{written}
use Rattle.graph_rules.specs.Layout.{step_count, no_state, marks_place, graph_place, graph_size, no_leaf, marks_word}

-- w₀: the words at the beginning; mark: the new marks word of each state; s: the states passed
pub record Marked (w₀ : List ℕ) (mark : ℕ → ℕ) (s : ℕ) (w : List ℕ) : Type 0 where
  pub len : length w ≡ length w₀
  pub done : (k : ℕ) → k < s → get_or w (graph_place k marks_place) 0 ≡ mark k
  pub other : (i : ℕ) → ((k : ℕ) → k < s → i ≡ graph_place k marks_place → ⊥) → get_or w i 0 ≡ get_or w₀ i 0

module _ (w₀ : List ℕ) (mark : ℕ → ℕ) where
  pub marked-none : Marked w₀ mark 0 w₀
  marked-none = record { len = refl; done = λ k h. absurd (not-suc-le-zero h); other = λ i f. refl }

  pub marked_more : (s : ℕ) (w : List ℕ) → graph_place s marks_place < length w₀ → Marked w₀ mark s w → Marked w₀ mark (s + 1) (set w (graph_place s marks_place) (mark s))
  marked_more s w h m =
      let at = graph_place s marks_place in
      let e = m.len in
      record {
        len = length-set w at (mark s) ∙ m.len;
        done = below_more _ s
            (λ k l. get_or-set_other w at (graph_place k marks_place) (mark s) 0 (λ q. let q' : graph_place k marks_place ≡ at = q in omega arith) ∙ m.done k l)
            (get_or-set_same w at (mark s) 0 (omega arith));
        other = λ i f. get_or-set_other w at i (mark s) 0 (λ q. f s (omega arith) q) ∙ m.other i (λ k l q. f k (omega arith) q);
      }

  -- a state that keeps its marks
  pub marked-keep : (s : ℕ) (w : List ℕ) → get_or w₀ (graph_place s marks_place) 0 ≡ mark s → Marked w₀ mark s w → Marked w₀ mark (s + 1) w
  marked-keep s w e m =
      record {
        len = m.len;
        done = below_more _ s m.done (m.other (graph_place s marks_place) (λ k l q. omega arith) ∙ e);
        other = λ i f. m.other i (λ k l q. f k (omega arith) q);
      }

module _ (w₀ : List ℕ) (taken : graph_fits w₀ ≡ true) (mark : ℕ → ℕ) (s : ℕ) (w : List ℕ) (m : Marked w₀ mark s w) where
  abbrev n : ℕ
  n = get_or w₀ 0 0

  pub marked-count : get_or w 0 0 ≡ get_or w₀ 0 0
  marked-count = m.other 0 (λ k l q. omega arith)

  pub marked-root : get_or w 1 0 ≡ get_or w₀ 1 0
  marked-root = m.other 1 (λ k l q. omega arith)

  pub marked-target : (k c : ℕ) → c < step_count → get_or w (graph_place k c) 0 ≡ get_or w₀ (graph_place k c) 0
  marked-target k c b = m.other (graph_place k c) (λ j l q. omega arith)

  -- the marks of a state that has not been passed
  pub marked-later : (k : ℕ) → s ≤ k → get_or w (graph_place k marks_place) 0 ≡ get_or w₀ (graph_place k marks_place) 0
  marked-later k h = m.other (graph_place k marks_place) (λ j l q. omega arith)

  pub marked-fits : graph_fits w ≡ true
  marked-fits =
      let e = marked-count in
      let l = m.len in
      let long = taken-long w₀ taken in
      words-fit w (rw (e, l) long) (rw e (taken-few w₀ taken))
      (λ k c h b. rw (e, marked-target k c b) (taken-target w₀ taken k c (rw e at h) b))
      (rw (e, marked-root) (taken-root w₀ taken))

  -- the words after the last state stay, whatever their number
  marked-rest : s ≡ n → drop (graph_size n) w ≡ drop (graph_size n) w₀
  marked-rest all = same_after 0 (graph_size n) w₀ w m.len (λ i h. m.other i (λ k b q. omega arith))

  -- when all are passed: the buffer of a graph with the same edges and the new marks
  pub marked_all : s ≡ get_or w₀ 0 0 → (g : Graph) → Fits no_leaf n g → length g.states ≡ get_or w₀ 0 0 → g.root ≡ get_or w₀ 1 0
      → ((k c : ℕ) → to g k c ≡ to (graph_from w₀) k c)
      → ((k : ℕ) → k < get_or w₀ 0 0 → mark k ≡ marks_word (unwrap_or (accept_of g k) no_leaf) (unwrap_or (early_of g k) no_leaf))
      → w ≡ graph_buffer (get_or w₀ 0 0) g ++ drop (graph_size (get_or w₀ 0 0)) w₀
  marked_all all g f size root targets marks =
      let e = m.len in
      let long = taken-long w₀ taken in
      rw (← marked-rest all)
      (written no_leaf n (omega arith) (taken-few w₀ taken) g f w (rw e long) (marked-count ∙ sym size) (marked-root ∙ sym root)
      (λ k c b l.
      marked-target k c l ∙ sym (target_is w₀ taken k c (omega arith) l) ∙ ap (λ (o : Option ℕ). unwrap_or o no_state) (sym (targets k c)))
      (λ k b. m.done k (omega arith) ∙ marks k (omega arith))
      (λ i a b. absurd (omega arith)))
