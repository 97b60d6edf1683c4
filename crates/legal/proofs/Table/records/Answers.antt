-- r, of a legal table. Assumes nothing.
use native.Mathlib.Omega.{arith}
use Rattle.legal.proofs.Views.{four, few-records}
use Rattle.legal.proofs.Table.records.Goals as goal

pub word-requires : goal.word-requires
word-requires c = omega (arith, four _ c.args.self.legal)

pub returns : goal.returns
returns c = (c.word.ensures.0, omega (arith, few-records _ c.args.self.legal))
