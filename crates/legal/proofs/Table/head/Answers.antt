-- The head's word stands behind the steps, and condition 7 judged it. Assumes nothing.
use mathlib.Core.Path.{ap, ◌∙◌}
use native.Mathlib.Omega.{arith}
use Rattle.graph_rules.specs.Graph.{or_none}
use Rattle.legal.proofs.Views.{few-states, in-row, head-is}
use Rattle.legal.proofs.Table.head.Goals as goal

pub row_word-requires-clause-s_bound : goal.row_word-requires-clause-s_bound
row_word-requires-clause-s_bound c = omega (arith, few-states _ c.args.self.legal)

pub row_word-requires-clause-c_in_bounds : goal.row_word-requires-clause-c_in_bounds
row_word-requires-clause-c_in_bounds c = in-row _ c.args.self.legal _ _ _ c.leaves.ensures.0 c.requires (omega arith)

pub named-requires : goal.named-requires
named-requires c = (head-is _ c.args.self.legal _ _ _ c.leaves.ensures.0 c.requires c.row_word.ensures.0).1

pub returns-clause-number : goal.returns-clause-number
returns-clause-number c = c.named.ensures.number ∙ ap (or_none 0) (head-is _ c.args.self.legal _ _ _ c.leaves.ensures.0 c.requires c.row_word.ensures.0).0
