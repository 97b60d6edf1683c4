-- 12, then the offset, then why the words are no plan, then whether the scan has ended.
use Rattle.std.proofs.Common.{sym, ◌∙◌, List, ℕ}
use Rattle.plan_rows.proofs.Growing.{passed-on}
use Rattle.plans.proofs.Running.{done, answered-ok}
use Rattle.plans.proofs.PlannedScans.{none-refused, planned-twelve, planned-far, planned-refused, planned-over}
use Rattle.plans.proofs.planned.offset.Goals as goal

pub returns-in_err-legal : goal.returns-in_err-legal
returns-in_err-legal c =
    rw (passed-on c.from_residual.result c.from_residual.ensures.1) (λ (out : List ℕ). planned-twelve c.args.graph.now c.args.plan.now c.args.store.now c.args.text.now c.args.scan out c.in_err-legal.ensures.0 c.in_err-legal.ensures.1)

pub returns-then-reads_past : goal.returns-then-reads_past
returns-then-reads_past c out = planned-far c.args.graph.now c.args.plan.now c.args.store.now c.args.text.now c.args.scan out c.in_ok-legal.ensures.1 (sym c.reads_past.ensures ∙ c.if-reads_past.true)

pub returns-in_err-check_plan : goal.returns-in_err-check_plan
returns-in_err-check_plan c =
    rw (passed-on c.from_residual-in_err-check_plan.result c.from_residual-in_err-check_plan.ensures.1)
    (λ (out : List ℕ). planned-refused c.args.graph.now c.args.plan.now c.args.store.now c.args.text.now c.args.scan out c.in_ok-legal.ensures.1 (sym c.reads_past.ensures ∙ c.if-reads_past.false) c.in_ok-legal.ensures.0 c.check_plan.ensures c.in_err-check_plan.was)

pub returns-in-Reading : goal.returns-in-Reading
returns-in-Reading c =
    (none-refused c.args.graph.now c.args.plan.now c.args.store.now c.args.text.now c.args.scan c.in_ok-legal.ensures.1 (sym c.reads_past.ensures ∙ c.if-reads_past.false) c.in_ok-legal.ensures.0 (answered-ok _ done (sym c.check_plan.ensures ∙ c.in_ok-check_plan.was)), c.in-Reading.is)

pub returns-in-Ended : goal.returns-in-Ended
returns-in-Ended c out =
    planned-over c.args.graph.now c.args.plan.now c.args.store.now c.args.text.now c.args.scan out c.in_ok-legal.ensures.1 (sym c.reads_past.ensures ∙ c.if-reads_past.false) c.in_ok-legal.ensures.0 (answered-ok _ done (sym c.check_plan.ensures ∙ c.in_ok-check_plan.was)) c.in-Ended.is
