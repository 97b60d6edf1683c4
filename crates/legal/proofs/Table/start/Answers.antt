-- The start's word, or the word for none. Assumes nothing.
use native.Mathlib.Omega.{arith}
use Rattle.legal.proofs.Views.{four, start-of, start-below}
use Rattle.legal.proofs.Table.start.Goals as goal

pub word-requires : goal.word-requires
word-requires c = omega (arith, four _ c.args.self.legal)

pub returns-clause-value : goal.returns-clause-value
returns-clause-value c = start-of _ c.args.self.legal _ _ c.word.ensures.0 c.or_none.ensures

pub returns-clause-state : goal.returns-clause-state
returns-clause-state c = start-below _ c.args.self.legal _ _ c.word.ensures.0 c.or_none.ensures
