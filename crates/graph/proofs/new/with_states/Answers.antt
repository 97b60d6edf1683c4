-- 9, decided before a word is written, or the ties and the graph. Assumes nothing.
use Rattle.std.proofs.Common.{ℕ, ◌<◌, get_or, refl, subst}
use Rattle.graph_rules.proofs.Counts.{size_is}
use Rattle.graph_rules.proofs.Shape.{legal-start}
use Rattle.graph.proofs.Building.{states-short, states-done}
use Rattle.graph.proofs.new.with_states.Goals as goal

pub reached-set-requires : goal.reached-set-requires
reached-set-requires c =
    let w = c.args.table.words.now in
    subst (λ (n : ℕ). c.args.start < n) (size_is w) (legal-start w c.args.table.legal c.args.start c.requires.start_value)

pub returns-then-errors-ties : goal.returns-then-errors-ties
returns-then-errors-ties c =
    let w = c.args.table.words.now in
    states-short w c.args.start (get_or w 0 0) refl c.args.graph.now c.args.errors.now c.reached-set.result c.reached-set.ensures
    c.tie_words-ties.result.words c.tie_words-ties.ensures.words_value c.if-errors-ties.true

pub returns : goal.returns
returns c =
    let w = c.args.table.words.now in
    states-done w c.args.start (get_or w 0 0) refl c.args.graph.now c.args.errors.now c.reached-set.result c.reached-set.ensures
    c.tie_words-ties.result.words c.tie_words-ties.ensures.words_value c.if-errors-ties.false c.tie_words-ties.result.errors _ _ _ _
    c.tie_words-ties.ensures.errors_value c.write_graph.ensures.graph_after c.write_ties.ensures c.states.ensures.0 c.root.ensures.0
