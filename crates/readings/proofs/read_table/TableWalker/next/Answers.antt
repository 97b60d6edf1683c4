use Rattle.std.proofs.Common.{ap, ◌∙◌}
use Rattle.graph_rules.specs.Build.{edge}
use Rattle.graph_rules.specs.Read.{table_walker}
use Rattle.readings.proofs.Starts.{edge-is}
use Rattle.readings.proofs.read_table.TableWalker.next.Goals as goal

pub returns-clause-target : goal.returns-clause-target
unfolding table_walker
returns-clause-target c = c.or_none.ensures ∙ edge-is c.step.result ∙ ap edge c.step.ensures.0
