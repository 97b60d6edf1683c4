-- Each test by itself.
use Rattle.std.proofs.Common.{sym, ap, ◌∙◌, arith}
use Rattle.graph_rules.specs.Graph.{graph_from}
use Rattle.mask_store.proofs.Search.{allowed-count}
use Rattle.plan_rows.specs.Needs.{stored}
use Rattle.plan_rows.proofs.Growing.{passed-on}
use Rattle.planning.proofs.Planning.{size_is}
use Rattle.plans.proofs.Running.{told, plan-short, plan-full, plan-lacks, plan-differs, plan-taken}
use Rattle.plans.proofs.run.check_plan.Goals as goal

pub returns-then-plan-states : goal.returns-then-plan-states
returns-then-plan-states c = told (graph_from c.args.graph.words.now) c.args.plan.now c.args.store.now (plan-short (graph_from c.args.graph.words.now) c.args.plan.now c.args.store.now (omega (arith, size_is c.args.graph.words.now _ c.states.ensures.0)))

pub returns-in_err-after : goal.returns-in_err-after
returns-in_err-after c =
    passed-on c.from_residual.result c.from_residual.ensures.1 ∙ plan-full (graph_from c.args.graph.words.now) c.args.plan.now c.args.store.now (omega (arith, size_is c.args.graph.words.now _ c.states.ensures.0)) (sym c.grow.ensures ∙ ap stored c.in_err-after.was)

pub returns-then-after-held : goal.returns-then-after-held
returns-then-after-held c = told (graph_from c.args.graph.words.now) c.args.plan.now c.args.store.now (plan-lacks (graph_from c.args.graph.words.now) c.args.plan.now c.args.store.now (omega (arith, size_is c.args.graph.words.now _ c.states.ensures.0)) (sym c.grow.ensures ∙ ap stored c.in_ok-after.was) c.if-after-held.true)

pub invariant_of-masks : goal.invariant_of-masks
invariant_of-masks c = record { few = allowed-count c.in_ok-after.after.store c.in_ok-after.after.allowed }

pub agrees-requires : goal.agrees-requires
agrees-requires c = record { graph_in_bounds = (omega (arith, size_is c.args.graph.words.now _ c.states.ensures.0)) }

pub returns-then-agrees : goal.returns-then-agrees
returns-then-agrees c =
    told (graph_from c.args.graph.words.now) c.args.plan.now c.args.store.now
    (plan-taken (graph_from c.args.graph.words.now) c.args.plan.now c.args.store.now (omega (arith, size_is c.args.graph.words.now _ c.states.ensures.0)) (sym c.grow.ensures ∙ ap stored c.in_ok-after.was) c.if-after-held.false (sym c.agrees.ensures) c.if-agrees.true)

pub returns-else-agrees : goal.returns-else-agrees
returns-else-agrees c =
    told (graph_from c.args.graph.words.now) c.args.plan.now c.args.store.now
    (plan-differs (graph_from c.args.graph.words.now) c.args.plan.now c.args.store.now (omega (arith, size_is c.args.graph.words.now _ c.states.ensures.0)) (sym c.grow.ensures ∙ ap stored c.in_ok-after.was) c.if-after-held.false (sym c.agrees.ensures) c.if-agrees.false)
