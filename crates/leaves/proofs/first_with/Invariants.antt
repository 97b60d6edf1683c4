-- The first record of that priority from here on is the chain's first. The measure is the record: its next is below it. Assumes nothing.
use Rattle.std.proofs.Common.{◌≡◌, ◌≤◌, Some, unwrap_or}
use Rattle.std.specs.Option.{ForSome}
use Rattle.legal.specs.Records.{number_of}
use Rattle.leaves.proofs.Walks.{first_on}
use Rattle.leaves.proofs.first_with.Given as goal

abbrev pub invariant-loop-at : goal.invariant-loop-at
invariant-loop-at l =
    record {
      of : ForSome l.at (λ r. (r.table ≡ l.from.table) × (r.number ≤ l.from.number));
      same : first_on l.p l.at ≡ first_on l.p (Some l.from);
    }

abbrev pub decreases-loop-at : goal.decreases-loop-at
decreases-loop-at l = unwrap_or (number_of l.at) 0
