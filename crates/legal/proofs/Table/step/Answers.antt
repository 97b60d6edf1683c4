-- The word at the place of the layout, which condition 6 judged. Assumes nothing.
use native.Mathlib.Omega.{arith}
use Rattle.legal.proofs.Views.{few-states, in-row, step-is}
use Rattle.legal.proofs.Table.step.Goals as goal

pub row_word-requires-clause-s_bound : goal.row_word-requires-clause-s_bound
row_word-requires-clause-s_bound c = omega (arith, few-states _ c.args.self.legal)

pub row_word-requires-clause-c_in_bounds : goal.row_word-requires-clause-c_in_bounds
row_word-requires-clause-c_in_bounds c = in-row _ c.args.self.legal _ _ _ c.leaves.ensures.0 c.requires.s_bound (omega arith)

pub returns : goal.returns
returns c = step-is _ c.args.self.legal _ _ _ _ c.leaves.ensures.0 c.requires.s_bound c.requires.c_lt_step_count c.row_word.ensures.0
