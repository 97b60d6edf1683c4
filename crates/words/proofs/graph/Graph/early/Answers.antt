-- The mark is a byte of the marks word. Assumes nothing.
use mathlib.Core.Path.{ap}
use Prim.Native.Nat.{ℕ}
use native.Mathlib.Omega.{arith}
use Rattle.graph_rules.proofs.Taken.{taken-few}
use Rattle.graph_rules.specs.Layout.{early_in}
use Rattle.words.proofs.Views.{in-row, early-of, leaf-below}
use Rattle.words.proofs.graph.Graph.early.Goals as goal

pub word-requires-clause-s_bound : goal.word-requires-clause-s_bound
word-requires-clause-s_bound c = omega (arith, taken-few _ c.args.self.fits)

pub word-requires-clause-c_in_bounds : goal.word-requires-clause-c_in_bounds
word-requires-clause-c_in_bounds c = in-row _ c.args.self.fits _ _ c.requires.s_bound (omega arith)

pub returns-clause-value : goal.returns-clause-value
returns-clause-value c = early-of _ c.args.self.fits _ _ _ c.requires.s_bound c.or_none.ensures (ap (λ (x : ℕ). early_in x) c.word.ensures.0)

pub returns-clause-leaf : goal.returns-clause-leaf
returns-clause-leaf c = leaf-below _ c.args.self.fits _ _ _ c.requires.s_bound c.or_none.ensures (omega arith)
