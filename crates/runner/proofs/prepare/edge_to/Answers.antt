use Rattle.std.proofs.Common.{◌≡◌, sym, ap, ◌∙◌, ◌⊎◌, inl, inr, Some, arith, ◌<◌, get_or}
use Rattle.graph_rules.specs.Graph.{Graph, graph_from, state_of}
use Rattle.graph_rules.proofs.Taken.{taken-few}
use Rattle.classes.specs.Classes.{comparisons}
use Rattle.classes.specs.ClassAnswers.{as_comparisons}
use Rattle.edges.specs.Edges.{class_to}
use Rattle.plan_rules.specs.declared.Way.{Way}
use Rattle.plan_rules.specs.declared.Way.TheVariants.{BySelf, ByMask}
use Rattle.runner.specs.Prepared.{untested, by_way, edge_to}
use Rattle.runner.proofs.Preparing.{kept, kept-none, kept-table, kept-way}
use Rattle.runner.proofs.prepare.edge_to.Goals as goal

pub overflow_cast-target : goal.overflow_cast-target
overflow_cast-target c =
    let b : c.in-Some.u < get_or c.args.graph.words.now 0 0 = rw c.in-Some.is at c.requires.target_bound in
    omega (arith, taken-few c.args.graph.words.now c.args.graph.fits)

pub returns-in_default : goal.returns-in_default
returns-in_default c = rw c.in_default.is (kept-none (graph_from c.args.graph.words.now) c.args.s)

pub returns-then-tabled : goal.returns-then-tabled
returns-then-tabled c = rw c.in-Some.is (kept-table (graph_from c.args.graph.words.now) c.args.s c.in-Some.u (sym c.requires.tabled_value ∙ c.if-tabled.true))

pub returns-in-ByTests : goal.returns-in-ByTests
returns-in-ByTests c =
    let g = graph_from c.args.graph.words.now in
    let class = class_to (state_of g c.args.s) c.in-Some.u in
    rw c.in-Some.is
    (kept c.in-Some.u (comparisons class) (c.impl_with_cmp-cmp.ensures.value ∙ ap (λ x. as_comparisons (comparisons x)) c.class_to.ensures) _
    ∙ kept-way g c.args.s c.in-Some.u (sym c.requires.tabled_value ∙ c.if-tabled.false) (sym c.way_to.ensures ∙ c.in-ByTests.is))

pub returns-in-BySelf : goal.returns-in-BySelf
returns-in-BySelf c = rw c.in-Some.is (go c.in-BySelf.is)
  where
    g : Graph
    g = graph_from c.args.graph.words.now

    way : {w : Way} → c.way_to.result ≡ w → by_way w (class_to (state_of g c.args.s) c.in-Some.u) c.in-Some.u ≡ edge_to g c.args.s (Some c.in-Some.u)
    way e = kept-way g c.args.s c.in-Some.u (sym c.requires.tabled_value ∙ c.if-tabled.false) (sym c.way_to.ensures ∙ e)

    go : (c.way_to.result ≡ BySelf) ⊎ (c.way_to.result ≡ ByMask) → untested c.in-Some.u ≡ edge_to g c.args.s (Some c.in-Some.u)
    go (inl e) = way e
    go (inr e) = way e
