-- The store has taken the classes that the states below s need.
use Rattle.plan_rows.proofs.StateNeeds.{Going}
use Rattle.plan_rows.proofs.needs.grow.Given as goal

abbrev pub invariant-loop-s : goal.invariant-loop-s
invariant-loop-s l = Going l.graph.words.now l.fn.store l.held.store l.s
