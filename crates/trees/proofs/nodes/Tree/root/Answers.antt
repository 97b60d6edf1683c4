-- `trees::nodes::Tree::root`: a tree has a record. Assumes nothing.
use Rattle.std.proofs.Common.{arith}
use Rattle.trees.proofs.TreeLaws.{tree-rules}
use Rattle.trees.proofs.nodes.Tree.root.Goals as goal

pub node-requires : goal.node-requires
node-requires c = let rules = tree-rules _ _ c.args.self.now.fits in (omega (arith, rules.some, c.count.ensures), omega (arith, c.count.ensures))
