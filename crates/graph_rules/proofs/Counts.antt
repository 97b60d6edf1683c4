-- How many leaves and rows the words of a table make, how long a row is, and the set of the states that are reached. Assumes nothing.
use mathlib.Core.Path.{◌≡◌, ap, ◌∙◌}
use mathlib.Core.Bool.{Bool}
use mathlib.Core.List.{List, [], ◌++◌}
use Prim.Native.Nat.{ℕ, ◌+◌, ◌*◌, ◌<◌}
use native.Mathlib.Omega.{arith}
use lib.Dec.{eqb}
use lib.ListN.{length, get_or, take, drop, length-map, length-drop}
use lib.Seq.{take_at, length-take-le}
use Rattle.lists.specs.Lists.{pieces}
use Rattle.lists.proofs.Closure.{closure-length}
use Rattle.lists.proofs.Pieces.{pieces-length, pieces-width}
use Rattle.lists.proofs.Elements.{map_at}
use Rattle.graph_rules.specs.Layout.{step_count, table_row, head_place, table_length}
use Rattle.graph_rules.specs.Table.{Row, Table, table_of, size, row_of}
use Rattle.graph_rules.specs.Build.{steps_to, reached}

pub reached-length : (t : Table) (start : ℕ) → length (reached t start) ≡ size t
unfolding reached
reached-length t start = closure-length (steps_to t) (size t) (eqb start)

module _ (w : List ℕ) where
  pub leaves-length : length (table_of w).leaves ≡ get_or w 2 0
  unfolding table_of
  leaves-length = length-map (pieces 3 (get_or w 2 0) (drop 4 w)) _ ∙ pieces-length 3 (get_or w 2 0) (drop 4 w)

  abbrev row_pieces : List (List ℕ)
  row_pieces = pieces table_row (get_or w 0 0) (drop (4 + 3 * get_or w 2 0) w)

  pub rows-length : length (table_of w).rows ≡ get_or w 0 0
  unfolding table_of
  rows-length = length-map row_pieces _ ∙ pieces-length table_row (get_or w 0 0) _

  pub size_is : size (table_of w) ≡ get_or w 0 0
  unfolding size
  size_is = rows-length

  -- where the words have their length (refusal 3)
  pub row-width : length w ≡ table_length (get_or w 0 0) (get_or w 2 0) (get_or w 3 0) → (s : ℕ) → s < get_or w 0 0 → length (row_of (table_of w) s).steps ≡ step_count
  unfolding row_of table_of
  row-width exact s h =
      let p = pieces-width table_row (get_or w 0 0) (drop (4 + 3 * get_or w 2 0) w) (simp length-drop (omega arith)) s h in
      ap (λ (r : Row). length r.steps)
      (map_at (λ (p : List ℕ). record { steps = take step_count p; head = get_or p head_place 0 }) row_pieces s [] (record { steps = []; head = 0 })
      (rw (pieces-length table_row (get_or w 0 0) (drop (4 + 3 * get_or w 2 0) w)) h))
      ∙ length-take-le step_count (get_or row_pieces s []) (omega arith)

  module _ (start : ℕ) where
    pub reached-size : length (reached (table_of w) start) ≡ get_or w 0 0
    reached-size = reached-length (table_of w) start ∙ size_is

    -- in front of what follows it in an array
    pub reached-front : (rest : List Bool) → take (get_or w 0 0) (reached (table_of w) start ++ rest) ≡ reached (table_of w) start
    reached-front rest = take_at (reached (table_of w) start) rest (get_or w 0 0) reached-size
