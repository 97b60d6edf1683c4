use Rattle.std.proofs.Common.{arith}
use Rattle.plan_rows.proofs.Ways.{way-self, way-tests, way-mask}
use Rattle.plan_rows.proofs.way.way_to.Goals as goal

pub returns-then-u-s : goal.returns-then-u-s
returns-then-u-s c = way-self _ _ _ c.if-u-s.true

pub returns-then-cost-gt-COST : goal.returns-then-cost-gt-COST
returns-then-cost-gt-COST c = way-mask _ _ _ c.class_to.ensures c.if-u-s.false (omega (arith, c.cost.ensures))

pub returns-else-cost-gt-COST : goal.returns-else-cost-gt-COST
returns-else-cost-gt-COST c = way-tests _ _ _ c.class_to.ensures c.if-u-s.false (omega (arith, c.cost.ensures))
