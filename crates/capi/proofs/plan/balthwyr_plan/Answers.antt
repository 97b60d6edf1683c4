-- `plan::balthwyr_plan` meets its contract: planning on the block's store is told, and its store kept. Assumes nothing.
use Rattle.std.proofs.Common.{rules}
use Rattle.capi.proofs.HeldPlans.{plan-held}
use Rattle.capi.proofs.plan.balthwyr_plan.Goals as goal

pub returns-clause-count_value : goal.returns-clause-count_value
returns-clause-count_value c =
    let a = c.args in
    rw (← plan-held a.graph.now a.plan.now a.tables.now a.count.now, ← c.store_in.ensures, ← c.plan_by_loan-planning.ensures.0) (search rules)

pub returns-clause-plan_after : goal.returns-clause-plan_after
returns-clause-plan_after c =
    let a = c.args in
    rw (← plan-held a.graph.now a.plan.now a.tables.now a.count.now, ← c.store_in.ensures) c.plan_by_loan-planning.ensures.1

pub returns-clause-tables_after : goal.returns-clause-tables_after
returns-clause-tables_after c =
    let a = c.args in
    rw (← plan-held a.graph.now a.plan.now a.tables.now a.count.now, ← c.store_in.ensures, ← c.plan_by_loan-planning.ensures.0) c.keep.ensures.tables_after

pub returns-clause-count_after : goal.returns-clause-count_after
returns-clause-count_after c =
    let a = c.args in
    rw (← plan-held a.graph.now a.plan.now a.tables.now a.count.now, ← c.store_in.ensures, ← c.plan_by_loan-planning.ensures.0) c.keep.ensures.count_after
