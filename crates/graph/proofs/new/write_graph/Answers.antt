-- Each rule's words are the next one's; together they are the build's. Assumes nothing.
use Rattle.std.proofs.Common.{ℕ, ◌<◌, get_or, subst}
use Rattle.graph_rules.proofs.Counts.{size_is}
use Rattle.graph_rules.proofs.Shape.{few-states, few-leaves, legal-start}
use Rattle.graph.proofs.Stages.{stage-taken}
use Rattle.graph.proofs.Composed.{first-stage, composed}
use Rattle.graph.proofs.new.write_graph.Goals as goal

pub write-requires-clause-start_bound : goal.write-requires-clause-start_bound
write-requires-clause-start_bound c =
    let w = c.args.table.words.now in
    subst (λ (n : ℕ). c.args.start < n) (size_is w) (legal-start w c.args.table.legal c.args.start c.requires.start_value)

pub early-requires : goal.early-requires
early-requires c =
    let w = c.args.table.words.now in
    let legal = c.args.table.legal in
    stage-taken (get_or w 2 0) (get_or w 0 0) (few-leaves w legal) (few-states w legal) c.args.graph.now _ _
    (first-stage w legal c.args.start c.requires.start_value c.args.graph.now _ c.write.ensures)

pub returns-clause-graph_after : goal.returns-clause-graph_after
returns-clause-graph_after c =
    let w = c.args.table.words.now in
    let legal = c.args.table.legal in
    composed w legal c.args.start c.requires.start_value c.args.graph.now _ _ _ _ _
    (first-stage w legal c.args.start c.requires.start_value c.args.graph.now _ c.write.ensures)
    c.early.ensures.graph_after c.clear.ensures.graph_after c.prune.ensures.graph_after c.merge.ensures.graph_after
