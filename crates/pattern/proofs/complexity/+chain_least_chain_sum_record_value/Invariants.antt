-- The cycle of calls of `pattern::complexity`. A record's first child and the next of its chain have lower numbers, so the measure is twice the
-- record's number, and one more for the chain that begins there. Assumes nothing.
use Rattle.std.proofs.Common.{◌+◌, ◌*◌}
use Rattle.pattern.proofs.Chains.{number_of, Summing, Leasting}
use Rattle.pattern.proofs.complexity.+chain_least_chain_sum_record_value.Given as goal

abbrev pub decreases-chain_least : goal.decreases-chain_least
decreases-chain_least l = 2 * number_of l.first + 1

abbrev pub decreases-chain_sum : goal.decreases-chain_sum
decreases-chain_sum l = 2 * number_of l.first + 1

abbrev pub decreases-record_value : goal.decreases-record_value
decreases-record_value l = 2 * l.node.number

abbrev pub invariant-chain_least-loop-next : goal.invariant-chain_least-loop-next
invariant-chain_least-loop-next l = Leasting l.fn.first l.least l.next

abbrev pub decreases-chain_least-loop-next : goal.decreases-chain_least-loop-next
decreases-chain_least-loop-next l = number_of l.next

abbrev pub invariant-chain_sum-loop-next : goal.invariant-chain_sum-loop-next
invariant-chain_sum-loop-next l = Summing l.fn.first l.total l.next

abbrev pub decreases-chain_sum-loop-next : goal.decreases-chain_sum-loop-next
decreases-chain_sum-loop-next l = number_of l.next
