-- The count of a graph's words is at most the most states. Assumes nothing.
use native.Mathlib.Omega.{arith}
use Rattle.graph_rules.proofs.Taken.{taken-few, taken-long}
use Rattle.words.proofs.graph.Graph.states.Goals as goal

pub word-requires : goal.word-requires
word-requires c = omega (arith, taken-long _ c.args.self.fits)

pub returns : goal.returns
returns c = (c.word.ensures.0, omega (arith, taken-few _ c.args.self.fits))
