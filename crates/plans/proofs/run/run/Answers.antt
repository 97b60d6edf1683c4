-- 12, 14 or 15; or the graph is prepared, and the text is run.
use Rattle.std.proofs.Common.{sym, ◌∙◌, None}
use Rattle.graph_rules.specs.Graph.{graph_from}
use Rattle.plan_rules.specs.Plan.{base}
use Rattle.plan_rules.specs.Run.{run_from, rows_of}
use Rattle.plan_rows.proofs.Growing.{passed-on}
use Rattle.plans.proofs.Running.{done, answered-ok, run-twelve, run-refused, run-answers}
use Rattle.plans.proofs.run.run.Goals as goal

pub returns-in_err-legal : goal.returns-in_err-legal
returns-in_err-legal c = passed-on c.from_residual.result c.from_residual.ensures.1 ∙ run-twelve c.args.graph.now c.args.plan.now c.args.store c.args.text.now c.in_err-legal.ensures.0 c.in_err-legal.ensures.1

pub returns-in_err-check_plan : goal.returns-in_err-check_plan
returns-in_err-check_plan c =
    passed-on c.from_residual-in_err-check_plan.result c.from_residual-in_err-check_plan.ensures.1
    ∙ run-refused c.args.graph.now c.args.plan.now c.args.store c.args.text.now c.in_ok-legal.ensures.1 c.in_ok-legal.ensures.0 c.check_plan.ensures c.in_err-check_plan.was

pub returns : goal.returns
returns c =
    let e = c.ready.ensures in
    run-answers c.args.graph.now c.args.plan.now c.args.store c.args.text.now c.in_ok-legal.ensures.1 c.in_ok-legal.ensures.0 (answered-ok _ done (sym c.check_plan.ensures ∙ c.in_ok-check_plan.was))
    (c.reading.ensures ∙ c.run.ensures
    ∙ (λ i. run_from (graph_from (e.graph i)) (rows_of base (graph_from (e.graph i)) (e.plan i)) (e.tables i) (graph_from (e.graph i)).root 0 None c.args.text.now))
