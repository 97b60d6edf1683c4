-- A target is the word of its edge. Assumes nothing.
use native.Mathlib.Omega.{arith}
use Rattle.graph_rules.proofs.Taken.{taken-few}
use Rattle.words.proofs.Views.{in-row, target-of, target-below}
use Rattle.words.proofs.graph.Graph.target.Goals as goal

pub word-requires-clause-s_bound : goal.word-requires-clause-s_bound
word-requires-clause-s_bound c = omega (arith, taken-few _ c.args.self.fits)

pub word-requires-clause-c_in_bounds : goal.word-requires-clause-c_in_bounds
word-requires-clause-c_in_bounds c = in-row _ c.args.self.fits _ _ c.requires.s_bound (omega arith)

pub returns-clause-value : goal.returns-clause-value
returns-clause-value c = target-of _ c.args.self.fits _ _ _ _ c.requires.s_bound c.requires.c_lt_step_count c.word.ensures.0 c.or_none.ensures

pub returns-clause-state : goal.returns-clause-state
returns-clause-state c = target-below _ c.args.self.fits _ _ _ _ c.requires.s_bound c.requires.c_lt_step_count c.word.ensures.0 c.or_none.ensures
