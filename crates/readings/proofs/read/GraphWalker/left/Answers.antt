use Rattle.std.proofs.Common.{sym}
use Rattle.graph_rules.specs.Read.{graph_walker}
use Rattle.readings.proofs.read.GraphWalker.left.Goals as goal

pub returns-clause-value : goal.returns-clause-value
unfolding graph_walker
returns-clause-value c = λ r. rw (sym c.accept.ensures.value) (c.at_end.ensures.value r)
