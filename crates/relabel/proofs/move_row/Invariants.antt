-- The words passed of the row have moved, all others are as they were. Assumes nothing.
use Rattle.relabel.specs.Names.{Moved}
use Rattle.relabel.proofs.move_row.Given as goal

abbrev pub invariant-loop-c : goal.invariant-loop-c
invariant-loop-c l = Moved l.names l.s l.k l.c l.fn.graph l.graph
