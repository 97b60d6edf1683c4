-- What is not refused is a plan of the graph.
use Rattle.graph_rules.specs.Graph.{graph_from}
use Rattle.plans.proofs.Running.{taken, plan-on}
use Rattle.plans.proofs.run.ready.Goals as goal

pub invariant_of-result-clause-room : goal.invariant_of-result-clause-room
invariant_of-result-clause-room c = (taken (graph_from c.args.graph.words.now) c.args.plan.now c.args.store.now c.requires.plan).long

pub invariant_of-result-clause-plan_on : goal.invariant_of-result-clause-plan_on
invariant_of-result-clause-plan_on c =
    ∣ plan-on (graph_from c.args.graph.words.now) c.args.plan.now c.args.store.now (taken (graph_from c.args.graph.words.now) c.args.plan.now c.args.store.now c.requires.plan) ∣₁
