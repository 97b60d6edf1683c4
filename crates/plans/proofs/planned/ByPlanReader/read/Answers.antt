-- The run by a plan reads what the graph reads.
use Rattle.std.proofs.Common.{◌∙◌, arith}
use Rattle.plans.proofs.planned.ByPlanReader.read.Goals as goal

pub returns : goal.returns
returns c = c.run.ensures ∙ c.args.self.now.alike c.args.text.now (λ i. omega (arith, c.type_inv.text i))
