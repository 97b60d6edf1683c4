-- The greater of `top` and the highest priority from here on is the chain's highest. The measure is the record: its next is below it. Assumes nothing.
use Rattle.std.proofs.Common.{◌≡◌, Some, unwrap_or}
use Prim.Native.Nat.{max}
use Rattle.legal.specs.Records.{number_of}
use Rattle.leaves.proofs.Walks.{highest_on}
use Rattle.leaves.proofs.highest.Given as goal

abbrev pub invariant-loop-at : goal.invariant-loop-at
invariant-loop-at l = max l.top (highest_on l.at) ≡ highest_on (Some l.from)

abbrev pub decreases-loop-at : goal.decreases-loop-at
decreases-loop-at l = unwrap_or (number_of l.at) 0
