-- A graph without states reads none. Assumes nothing.
use Rattle.std.proofs.Common.{sym, ◌∙◌}
use Rattle.graph_rules.specs.Read.{read_graph}
use Rattle.graph_rules.specs.Graph.{graph_from}
use Rattle.readings.proofs.Starts.{no-states, root_below}
use Rattle.readings.proofs.read.read.Goals as goal

pub returns-then-states-eq0 : goal.returns-then-states-eq0
returns-then-states-eq0 c = c.none.ensures ∙ sym (no-states c.args.graph.words.now c.args.graph.fits c.args.text.now (sym c.states.ensures.0 ∙ c.if-states-eq0.true))

pub walk-requires : goal.walk-requires
walk-requires c = rw c.root.ensures.0 (root_below c.args.graph.words.now c.args.graph.fits (λ z. c.if-states-eq0.false (c.states.ensures.0 ∙ z)))

pub returns : goal.returns
unfolding read_graph graph_from
returns c = c.walk.ensures ∙ rw c.root.ensures.0
