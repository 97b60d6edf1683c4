use Rattle.graph_rules.specs.Read.{graph_walker}
use Rattle.readings.proofs.read.GraphWalker.next.Goals as goal

pub returns-clause-target : goal.returns-clause-target
unfolding graph_walker
returns-clause-target c = c.target.ensures.value
