-- The root is a state, or 0 in a graph without states. Assumes nothing.
use native.Mathlib.Omega.{arith}
use Rattle.graph_rules.proofs.Taken.{taken-long}
use Rattle.words.proofs.Views.{root-few}
use Rattle.words.proofs.graph.Graph.root.Goals as goal

pub word-requires : goal.word-requires
word-requires c = omega (arith, taken-long _ c.args.self.fits)

pub returns : goal.returns
returns c = (c.word.ensures.0, omega (arith, root-few _ c.args.self.fits))
