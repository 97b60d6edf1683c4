-- A round that merges lowers the number of states; one that does not is the last. Assumes nothing.
use Rattle.std.proofs.Common.{◌≡◌, ℕ, List, Bool, true, false, cond, sym, ap, ◌∙◌, rules}
use borrow.Author.Tests.{not-true, not-false}
use Rattle.graph_rules.specs.Graph.{graph_from, rewritten}
use Rattle.graph_rules.specs.Build.{merge_round, merges_none}
use Rattle.graph_rules.proofs.Taken.{taken-few}
use Rattle.merge.proofs.Rounds.{merging-none, merging-done, merging-less, merging-more}
use Rattle.merge.proofs.merge.Goals as goal

after : (w v : List ℕ) (b : Bool) → merges_none (graph_from w) ≡ b → v ≡ cond (merges_none (graph_from w)) w (rewritten merge_round w)
    → v ≡ cond b w (rewritten merge_round w)
after w v b e q = q ∙ ap (λ (x : Bool). cond x w (rewritten merge_round w)) e

pub loop-init : goal.loop-init
loop-init c = merging-none c.args.graph.now c.requires (λ i. search rules)

pub merge_round-requires : goal.merge_round-requires
merge_round-requires c = c.loop.invariant.taken

pub loop-smaller : goal.loop-smaller
loop-smaller c =
    let e = not-true _ (sym c.merge_round.ensures.value ∙ c.if-not-merge_round.false) in
    merging-less c.args.graph.now (taken-few c.args.graph.now c.requires) c.loop.graph c.loop.invariant e c.merge_round.new.graph
    (after c.loop.graph c.merge_round.new.graph false e c.merge_round.ensures.graph_after)

pub loop-preserved : goal.loop-preserved
loop-preserved c =
    let e = not-true _ (sym c.merge_round.ensures.value ∙ c.if-not-merge_round.false) in
    merging-more c.args.graph.now (taken-few c.args.graph.now c.requires) c.loop.graph c.loop.invariant e c.merge_round.new.graph
    (after c.loop.graph c.merge_round.new.graph false e c.merge_round.ensures.graph_after) c.merge_round.ensures.graph_after_2 c.merge_round.auto.graph

pub returns-clause-graph_after : goal.returns-clause-graph_after
returns-clause-graph_after c =
    let e = not-false _ (sym c.merge_round.ensures.value ∙ c.if-not-merge_round.true) in
    after c.loop.graph c.merge_round.new.graph true e c.merge_round.ensures.graph_after
    ∙ merging-done c.args.graph.now (taken-few c.args.graph.now c.requires) c.loop.graph c.loop.invariant e
