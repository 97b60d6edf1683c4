-- The rows of the reached states before s are written, k of them (`Written`). Assumes nothing.
use Rattle.rows.proofs.FirstRows.{Written}
use Rattle.rows.proofs.write.Given as goal

abbrev pub invariant-loop-s : goal.invariant-loop-s
invariant-loop-s l = Written l.table.words.now l.start l.set l.initial.graph l.graph l.k l.s
