-- The outer invariant: the tables below t are right; the inner one: and the entries of table t below b.
use Rattle.std.proofs.Common.{ℕ, List, ◌%◌, ◌^◌, ◌≤◌}
use lib.ListN.{get_or}
use Rattle.lists.proofs.Grid.{Shape, Rows, Row}
use Rattle.mask_store.specs.Layout.{table_count, table_size, entry_place}
use Rattle.mask_store.specs.Masks.{used_in}
use Rattle.mask_store.proofs.render_luts.Given as goal

-- entry b of table t
abbrev pub wanted : List ℕ → ℕ → ℕ → ℕ → ℕ
wanted tables count t b = get_or tables (entry_place t b) 0 % 2 ^ used_in count t

abbrev pub invariant-loop-b : goal.invariant-loop-b
invariant-loop-b l =
    (l.b ≤ table_size)
    × Shape table_count table_size l.luts
    × Rows 0 table_size (wanted l.tables l.count) l.luts l.t
    × Row 0 table_size (wanted l.tables l.count) l.luts l.t l.b

abbrev pub invariant-loop-t : goal.invariant-loop-t
invariant-loop-t l = (l.t ≤ table_count) × Shape table_count table_size l.luts × Rows 0 table_size (wanted l.tables l.count) l.luts l.t
