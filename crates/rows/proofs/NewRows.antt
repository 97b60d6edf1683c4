-- A row's words, one by one: what the loop that writes a row shows (`row_target`, `row-marks`), and that they are the words of the renamed state
-- (`row_is`). Assumes nothing.
use Rattle.std.specs.Prelude.{Option, Some, None, unwrap_or}
use mathlib.Core.Path.{◌≡◌, refl, ap, ◌∙◌}
use mathlib.Core.List.{List, [], ◌∷◌, ◌++◌, map}
use Prim.Native.Nat.{ℕ, zero, suc, ◌<◌}
use native.Mathlib.Omega.{arith}
use borrow.Author.Tests.{ne_eqb}
use lib.ListN.{length, get_or, length-map, length-append, get_or-append}
use lib.Seq.{get_or_at}
use Rattle.lists.proofs.Elements.{map_at}
use Rattle.graph_rules.specs.Table.{Table, table_of, row_of}
use Rattle.graph_rules.specs.Graph.{state_words}
use Rattle.graph_rules.specs.Build.{leaf_of, edge, first_state, renamed}
use Rattle.graph_rules.proofs.Counts.{row-width}
use Rattle.legal.specs.Conditions.{states, Sized}
use Rattle.rows.specs.Renumbering.{new_target, new_row}
use Rattle.graph_rules.specs.Layout.{step_count, no_state, row_words, marks_place, no_leaf, marks_word}

-- the word of a target by its new name
abbrev pub target_word : List (Option ℕ) → ℕ → ℕ
target_word names u = unwrap_or (new_target names u) no_state

-- ---- a row's words

module _ (w : List ℕ) (z : Sized w) (names : List (Option ℕ)) (s : ℕ) (h : s < states w) where
  front_length : length (map (target_word names) (row_of (table_of w) s).steps) ≡ step_count
  front_length = length-map (row_of (table_of w) s).steps (target_word names) ∙ row-width w z.exact s h

  pub row-length : length (new_row (table_of w) names s) ≡ row_words
  unfolding new_row
  row-length =
      length-append (map (target_word names) (row_of (table_of w) s).steps) ((marks_word (unwrap_or (leaf_of (table_of w) s) no_leaf) no_leaf) ∷ []) ∙ (let l = front_length in omega arith)

  pub row_target : (c : ℕ) → c < step_count → get_or (new_row (table_of w) names s) c 0 ≡ target_word names (get_or (row_of (table_of w) s).steps c 0)
  unfolding new_row
  row_target c b =
      let l = front_length in
      let k = row-width w z.exact s h in
      get_or-append (map (target_word names) (row_of (table_of w) s).steps) _ 0 c (omega arith)
      ∙ map_at (target_word names) (row_of (table_of w) s).steps c 0 0 (omega arith)

  pub row-marks : get_or (new_row (table_of w) names s) marks_place 0 ≡ marks_word (unwrap_or (leaf_of (table_of w) s) no_leaf) no_leaf
  unfolding new_row
  row-marks = get_or_at (map (target_word names) (row_of (table_of w) s).steps) (marks_word (unwrap_or (leaf_of (table_of w) s) no_leaf) no_leaf) [] 0 marks_place front_length

-- ---- the words of the renamed state

target_is : (names : List (Option ℕ)) (u : ℕ) → new_target names u ≡ elim (edge u) [ None ↦ None | Some v ↦ get_or names v None ]
target_is names zero = refl
target_is names (suc u) = rw (ne_eqb (suc u) 0 (λ e. omega arith)) refl

targets-are : (names : List (Option ℕ)) (l : List ℕ)
    → map (target_word names) l ≡ map (λ o. unwrap_or o no_state) (map (λ o. elim o [ None ↦ None | Some u ↦ get_or names u None ]) (map edge l))
targets-are names [] = refl
targets-are names (x ∷ l) = let a = target_is names x in let b = targets-are names l in λ i. unwrap_or (a i) no_state ∷ b i

pub row_is : (t : Table) (names : List (Option ℕ)) (s : ℕ) → new_row t names s ≡ state_words (renamed names (first_state t s))
unfolding new_row state_words renamed first_state
row_is t names s =
    ap (λ (f : List ℕ). f ++ ((marks_word (unwrap_or (leaf_of t s) no_leaf) no_leaf) ∷ [])) (targets-are names (row_of t s).steps)
