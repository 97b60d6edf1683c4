-- The first c words of the row stand in their places, and the others are unchanged. Assumes nothing.
use Rattle.std.proofs.Common.{◌≡◌, take}
use Rattle.std.proofs.lemmas.List.Edits.{sets}
use Rattle.graph_rules.specs.Table.{table_of}
use Rattle.graph_rules.specs.Layout.{graph_place}
use Rattle.rows.specs.Renumbering.{new_row}
use Rattle.rows.proofs.write_row.Given as goal

abbrev pub invariant-loop-c : goal.invariant-loop-c
invariant-loop-c l = l.graph ≡ sets l.initial.graph (graph_place l.k 0) (take l.c (new_row (table_of l.table.words.now) l.names l.s))
