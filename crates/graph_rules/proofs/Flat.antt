-- Where the parts of a table and of a graph stand in their words: what code that indexes the flat words needs. Assumes nothing.
use Rattle.std.specs.Prelude.{Option, None, unwrap_or}
use mathlib.Core.Path.{◌≡◌, ap, ◌∙◌}
use mathlib.Core.List.{List, [], ◌∷◌, ◌++◌, map, flat_map}
use Prim.Native.Nat.{ℕ, zero, suc, ◌+◌, ◌*◌, ◌≤◌, ◌<◌, zero-le, suc-le-suc}
use native.Mathlib.Nat.{not-suc-le-zero, le_of_suc-le-suc}
use native.Mathlib.Omega.{arith}
use lib.ListN.{length, get_or, take, drop, length-map, length-drop, get_or-append}
use lib.Seq.{length-take-le, get_or-take, get_or-append-add, get_or_at}
use Rattle.lists.specs.Lists.{pieces}
use Rattle.lists.proofs.Elements.{map_at}
use Rattle.lists.proofs.Pieces.{pieces-length, pieces-width, piece-word}
use Rattle.graph_rules.specs.Table.{Leaf, Row, Match, table_of, row_of, step, leaf_at, match_of}
use Rattle.graph_rules.specs.Graph.{State, Graph, blank, state_of, to, accept_of, early_of, state_words, graph_words, or_none, state_from, graph_from}
use Rattle.graph_rules.proofs.Fits.{Fits}
use Rattle.graph_rules.proofs.Words.{state-length}
use Rattle.graph_rules.specs.Layout.{step_count, no_state, row_words, marks_place, graph_place, graph_size, no_leaf, marks_word, accept_in, early_in, table_row, head_place}

-- ---- a table

module _ (w : List ℕ) where
  abbrev rows_at : ℕ
  rows_at = 4 + 3 * get_or w 2 0

  abbrev matches_at : ℕ
  matches_at = 4 + 3 * get_or w 2 0 + table_row * get_or w 0 0

  row_at : (s : ℕ) → s < get_or w 0 0
      → row_of (table_of w) s ≡ record { steps = take step_count (get_or (pieces table_row (get_or w 0 0) (drop rows_at w)) s []); head = get_or (get_or (pieces table_row (get_or w 0 0) (drop rows_at w)) s []) head_place 0 }
  unfolding row_of table_of
  row_at s h =
      map_at (λ (p : List ℕ). record { steps = take step_count p; head = get_or p head_place 0 }) (pieces table_row (get_or w 0 0) (drop rows_at w)) s [] (record { steps = []; head = 0 })
      (rw (pieces-length table_row (get_or w 0 0) (drop rows_at w)) h)

  pub step-word : (s c : ℕ) → s < get_or w 0 0 → c < step_count → step (table_of w) s c ≡ get_or w (rows_at + table_row * s + c) 0
  unfolding step
  step-word s c h b =
      ap (λ (r : Row). get_or r.steps c 0) (row_at s h)
      ∙ get_or-take step_count (get_or (pieces table_row (get_or w 0 0) (drop rows_at w)) s []) c 0 b
      ∙ piece-word w rows_at table_row (get_or w 0 0) s c 0 h (omega arith)

  pub head-word : (s : ℕ) → s < get_or w 0 0 → (row_of (table_of w) s).head ≡ get_or w (rows_at + table_row * s + head_place) 0
  head-word s h = ap (λ (r : Row). r.head) (row_at s h) ∙ piece-word w rows_at table_row (get_or w 0 0) s head_place 0 h (omega arith)

  leaf-at : (l : ℕ) → l < get_or w 2 0 → leaf_at (table_of w) l ≡
      (let p = get_or (pieces 3 (get_or w 2 0) (drop 4 w)) l [] in record { priority = get_or p 0 0 + 65536 * get_or p 1 0; empty = get_or p 2 0 })
  unfolding leaf_at table_of
  leaf-at l h =
      map_at (λ (p : List ℕ). record { priority = get_or p 0 0 + 65536 * get_or p 1 0; empty = get_or p 2 0 }) (pieces 3 (get_or w 2 0) (drop 4 w)) l []
      (record { priority = 0; empty = 0 }) (rw (pieces-length 3 (get_or w 2 0) (drop 4 w)) h)

  pub priority-word : (l : ℕ) → l < get_or w 2 0 → (leaf_at (table_of w) l).priority ≡ get_or w (4 + 3 * l + 0) 0 + 65536 * get_or w (4 + 3 * l + 1) 0
  priority-word l h =
      let a = piece-word w 4 3 (get_or w 2 0) l 0 0 h (omega arith) in
      let b = piece-word w 4 3 (get_or w 2 0) l 1 0 h (omega arith) in
      ap (λ (x : Leaf). x.priority) (leaf-at l h) ∙ rw (a, b)

  pub empty-word : (l : ℕ) → l < get_or w 2 0 → (leaf_at (table_of w) l).empty ≡ get_or w (4 + 3 * l + 2) 0
  empty-word l h = ap (λ (x : Leaf). x.empty) (leaf-at l h) ∙ piece-word w 4 3 (get_or w 2 0) l 2 0 h (omega arith)

  match-at : (i : ℕ) → i < get_or w 3 0 → match_of (table_of w) (suc i) ≡
      (let p = get_or (pieces 2 (get_or w 3 0) (drop matches_at w)) i [] in record { leaf = get_or p 0 0; next = get_or p 1 0 })
  unfolding match_of table_of
  match-at i h =
      map_at (λ (p : List ℕ). record { leaf = get_or p 0 0; next = get_or p 1 0 }) (pieces 2 (get_or w 3 0) (drop matches_at w)) i [] (record { leaf = 0; next = 0 })
      (rw (pieces-length 2 (get_or w 3 0) (drop matches_at w)) h)

  pub leaf-word : (i : ℕ) → i < get_or w 3 0 → (match_of (table_of w) (suc i)).leaf ≡ get_or w (matches_at + 2 * i + 0) 0
  leaf-word i h = ap (λ (x : Match). x.leaf) (match-at i h) ∙ piece-word w matches_at 2 (get_or w 3 0) i 0 0 h (omega arith)

  pub next_word_lem : (i : ℕ) → i < get_or w 3 0 → (match_of (table_of w) (suc i)).next ≡ get_or w (matches_at + 2 * i + 1) 0
  next_word_lem i h = ap (λ (x : Match). x.next) (match-at i h) ∙ piece-word w matches_at 2 (get_or w 3 0) i 1 0 h (omega arith)

-- ---- a graph

states-word : (l : List State) → ((i : ℕ) → i < length l → length (state_words (get_or l i blank)) ≡ row_words) → (i c : ℕ) → i < length l → c < row_words
    → get_or (flat_map state_words l) (row_words * i + c) 0 ≡ get_or (state_words (get_or l i blank)) c 0
unfolding flat_map
states-word [] f i c h b = absurd (not-suc-le-zero h)
states-word (s ∷ l) f zero c h b =
    let e : length (state_words s) ≡ row_words = f 0 (suc-le-suc zero-le) in
    ap (λ (x : ℕ). get_or (state_words s ++ flat_map state_words l) x 0) (omega arith) ∙ get_or-append (state_words s) (flat_map state_words l) 0 c (omega arith)
states-word (s ∷ l) f (suc i) c h b =
    let e : length (state_words s) ≡ row_words = f 0 (suc-le-suc zero-le) in
    ap (λ (x : ℕ). get_or (state_words s ++ flat_map state_words l) x 0) (omega arith)
    ∙ get_or-append-add (state_words s) (flat_map state_words l) (row_words * i + c) 0
    ∙ states-word l (λ j k. f (suc j) (suc-le-suc k)) i c (le_of_suc-le-suc h) b

module _ (m n : ℕ) (g : Graph) (f : Fits m n g) (i : ℕ) (h : i < length g.states) where
  abbrev steps : List (Option ℕ)
  steps = (state_of g i).steps

  abbrev marks : ℕ
  marks = marks_word (unwrap_or (accept_of g i) no_leaf) (unwrap_or (early_of g i) no_leaf)

  width : length (map (λ o. unwrap_or o no_state) steps) ≡ step_count
  width = length-map steps _ ∙ (f.states i h).width

  word : (c : ℕ) → c < row_words → get_or (graph_words g) (2 + (row_words * i + c)) 0 ≡ get_or (state_words (state_of g i)) c 0
  unfolding graph_words state_of
  word c b =
      let e : 2 + (row_words * i + c) ≡ suc (suc (row_words * i + c)) = omega arith in
      ap (λ (x : ℕ). get_or (graph_words g) x 0) e
      ∙ states-word g.states (λ j k. state-length (state_of g j) (f.states j k).width) i c h b

  pub target-word : (c : ℕ) → c < step_count → get_or (graph_words g) (graph_place i c) 0 ≡ unwrap_or (to g i c) no_state
  unfolding state_words to accept_of early_of
  target-word c b =
      ap (λ (x : ℕ). get_or (graph_words g) x 0) (omega arith) ∙ word c (omega arith)
      ∙ get_or-append (map (λ o. unwrap_or o no_state) steps) (marks ∷ []) 0 c (let e = width in omega arith)
      ∙ map_at (λ o. unwrap_or o no_state) steps c None 0 (let e = (f.states i h).width in omega arith)

  pub marks-word : get_or (graph_words g) (graph_place i marks_place) 0 ≡ marks_word (unwrap_or (accept_of g i) no_leaf) (unwrap_or (early_of g i) no_leaf)
  unfolding state_words accept_of early_of
  marks-word =
      ap (λ (x : ℕ). get_or (graph_words g) x 0) (omega arith) ∙ word marks_place (omega arith)
      ∙ get_or_at (map (λ o. unwrap_or o no_state) steps) marks [] 0 marks_place width

-- ---- a graph that comes in as words

pub from-length : (w : List ℕ) → length (graph_from w).states ≡ get_or w 0 0
unfolding graph_from
from-length w = length-map (pieces row_words (get_or w 0 0) (drop 2 w)) state_from ∙ pieces-length row_words (get_or w 0 0) (drop 2 w)

module _ (w : List ℕ) (long : graph_size (get_or w 0 0) ≤ length w) (i : ℕ) (h : i < get_or w 0 0) where
  abbrev pub piece : List ℕ
  piece = get_or (pieces row_words (get_or w 0 0) (drop 2 w)) i []

  pub piece-length : length piece ≡ row_words
  piece-length = pieces-width row_words (get_or w 0 0) (drop 2 w) (simp length-drop (omega arith)) i h

  from-state : state_of (graph_from w) i ≡ state_from piece
  unfolding state_of graph_from
  from-state = map_at state_from (pieces row_words (get_or w 0 0) (drop 2 w)) i [] blank (rw (pieces-length row_words (get_or w 0 0) (drop 2 w)) h)

  pub from-width : length (state_of (graph_from w) i).steps ≡ step_count
  unfolding state_from
  from-width =
      ap (λ (s : State). length s.steps) from-state
      ∙ length-map (take step_count piece) (or_none no_state)
      ∙ length-take-le step_count piece (let l = piece-length in omega arith)

  pub from-to : (c : ℕ) → c < step_count → to (graph_from w) i c ≡ or_none no_state (get_or w (graph_place i c) 0)
  unfolding to state_from
  from-to c b =
      ap (λ (s : State). get_or s.steps c None) from-state
      ∙ map_at (or_none no_state) (take step_count piece) c 0 None
      (let e = length-take-le step_count piece (let l = piece-length in omega arith) in omega arith)
      ∙ ap (or_none no_state) (get_or-take step_count piece c 0 b ∙ piece-word w 2 row_words (get_or w 0 0) i c 0 h (omega arith))

  marks-is : get_or piece marks_place 0 ≡ get_or w (graph_place i marks_place) 0
  marks-is = piece-word w 2 row_words (get_or w 0 0) i marks_place 0 h (omega arith)

  pub from-accept : accept_of (graph_from w) i ≡ or_none no_leaf (accept_in (get_or w (graph_place i marks_place) 0))
  unfolding accept_of state_from
  from-accept = ap (λ (s : State). s.accept) from-state ∙ ap (λ (x : ℕ). or_none no_leaf (accept_in x)) marks-is

  pub from-early : early_of (graph_from w) i ≡ or_none no_leaf (early_in (get_or w (graph_place i marks_place) 0))
  unfolding early_of state_from
  from-early = ap (λ (s : State). s.early) from-state ∙ ap (λ (x : ℕ). or_none no_leaf (early_in x)) marks-is
