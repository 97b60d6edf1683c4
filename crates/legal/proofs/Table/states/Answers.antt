-- n, of a legal table. Assumes nothing.
use native.Mathlib.Omega.{arith}
use Rattle.legal.proofs.Views.{four, some-states, few-states}
use Rattle.legal.proofs.Table.states.Goals as goal

pub word-requires : goal.word-requires
word-requires c = omega (arith, four _ c.args.self.legal)

pub returns : goal.returns
returns c = (c.word.ensures.0, omega (arith, some-states _ c.args.self.legal), omega (arith, few-states _ c.args.self.legal))
