-- `trees::nodes::Node::next` meets its contract: the next has a lower number. Assumes nothing.
use Rattle.trees.proofs.NodeLaws.{next-in, next-chain, next-below}
use Rattle.trees.proofs.nodes.Node.next.Goals as goal

pub named-requires : goal.named-requires
named-requires c = next-in c.args.self c.record_at.result c.record_at.ensures

pub returns-clause-chain : goal.returns-clause-chain
returns-clause-chain c = next-chain c.args.self c.record_at.result c.record_at.ensures _ c.named.ensures

pub returns-clause-lower : goal.returns-clause-lower
returns-clause-lower c = next-below c.args.self c.record_at.result c.record_at.ensures _ c.named.ensures
