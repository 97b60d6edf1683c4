-- The records held begin the sorted ties of the states from s on. Assumes nothing.
use Rattle.conflicts.proofs.Orders.{Sorting}
use Rattle.conflicts.proofs.tie_order.Given as goal

abbrev pub invariant-loop-s : goal.invariant-loop-s
invariant-loop-s l = Sorting l.table.words.now l.set l.s l.order l.count
