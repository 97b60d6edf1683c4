-- `pattern::greedy::chain_has`: a node's number has a note. Assumes nothing.
use Rattle.std.proofs.Common.{arith}
use Rattle.trees.proofs.NodeLaws.{number_few}
use Rattle.pattern.proofs.greedy.chain_has.Goals as goal

pub offset_bounds-notes-node : goal.offset_bounds-notes-node
offset_bounds-notes-node c = omega (arith, number_few c.in-Some.node)

pub bounds-notes-node : goal.bounds-notes-node
bounds-notes-node c = number_few c.in-Some.node
