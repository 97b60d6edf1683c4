use Rattle.std.proofs.Common.{sym}
use Rattle.graph_rules.specs.Read.{graph_walker}
use Rattle.readings.proofs.read.GraphWalker.entered.Goals as goal

pub returns-in-Some-clause-value : goal.returns-in-Some-clause-value
unfolding graph_walker
returns-in-Some-clause-value c = λ r. rw (sym c.in-Some.ensures.value)

pub returns-in-None-clause-value : goal.returns-in-None-clause-value
unfolding graph_walker
returns-in-None-clause-value c = λ r. rw (sym c.in-None.ensures.value, sym c.accept.ensures.value) (c.late.ensures.value r)
