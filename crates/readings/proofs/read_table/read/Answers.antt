-- From no state, or from state 0, nothing is read. Assumes nothing.
use Rattle.std.proofs.Common.{◌∙◌}
use Rattle.graph_rules.specs.Read.{read_table}
use Rattle.readings.proofs.Starts.{edge-is}
use Rattle.readings.proofs.read_table.read.Goals as goal

pub returns-in_err-start : goal.returns-in_err-start
unfolding read_table
returns-in_err-start c = c.from_residual.ensures ∙ rw (← c.in_err-start.ensures.value)

pub returns-in_err-start-2 : goal.returns-in_err-start-2
unfolding read_table
returns-in_err-start-2 c = c.from_residual-in_err-start-2.ensures ∙ rw (← c.in_ok-start.ensures.value, ← edge-is c.in_ok-start.field-0, ← c.in_err-start-2.ensures)

pub returns : goal.returns
unfolding read_table
returns c = c.reading.ensures ∙ c.walk.ensures ∙ rw (← c.in_ok-start.ensures.value, ← edge-is c.in_ok-start.field-0, ← c.in_ok-start-2.ensures)
