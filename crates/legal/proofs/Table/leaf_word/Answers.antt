-- A leaf's words stand in the table. Assumes nothing.
use native.Mathlib.Omega.{arith}
use Rattle.legal.proofs.Views.{few-leaves, in-leaf}
use Rattle.legal.proofs.Table.leaf_word.Goals as goal

pub leaf_word-requires-clause-l_bound : goal.leaf_word-requires-clause-l_bound
leaf_word-requires-clause-l_bound c = omega (arith, few-leaves _ c.args.self.legal)

pub leaf_word-requires-clause-c_in_bounds : goal.leaf_word-requires-clause-c_in_bounds
leaf_word-requires-clause-c_in_bounds c = in-leaf _ c.args.self.legal _ _ c.requires.l_bound c.requires.c_bound
