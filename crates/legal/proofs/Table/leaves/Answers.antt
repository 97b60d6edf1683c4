-- m, of a legal table. Assumes nothing.
use native.Mathlib.Omega.{arith}
use Rattle.legal.proofs.Views.{four, few-leaves}
use Rattle.legal.proofs.Table.leaves.Goals as goal

pub word-requires : goal.word-requires
word-requires c = omega (arith, four _ c.args.self.legal)

pub returns : goal.returns
returns c = (c.word.ensures.0, omega (arith, few-leaves _ c.args.self.legal))
