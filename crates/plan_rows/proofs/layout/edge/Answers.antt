use Rattle.std.proofs.Common.{◌≡◌, ap, ◌∙◌, List, ℕ, ◌+◌, ◌*◌, arith, get_or}
use Rattle.plan_rules.specs.Plan.{base, edge_place, edge_said}
use Rattle.plan_rows.proofs.Words.{said-table, said-nothing, said-tests, said-mask}
use Rattle.plan_rows.proofs.layout.edge.Goals as goal

-- the word that is read is edge j's
at : (s j : ℕ) (l : List ℕ) → edge_said (get_or l (3 * s + (1 + j)) 0) ≡ edge_said (get_or l (edge_place base s j) 0)
at s j l = let e : 3 * s + (1 + j) ≡ edge_place base s j = omega arith in ap (λ (i : ℕ). edge_said (get_or l i 0)) e

pub returns-in-65535 : goal.returns-in-65535
returns-in-65535 c = said-table c.in-65535.is ∙ at c.args.s c.args.j c.args.plan.now

pub returns-in-0 : goal.returns-in-0
returns-in-0 c = said-nothing c.in-0.is ∙ at c.args.s c.args.j c.args.plan.now

pub returns-in-1 : goal.returns-in-1
returns-in-1 c = said-tests c.in-1.is ∙ at c.args.s c.args.j c.args.plan.now

pub returns-in_default : goal.returns-in_default
returns-in_default c = said-mask (omega arith) (omega arith) (omega arith) ∙ at c.args.s c.args.j c.args.plan.now
