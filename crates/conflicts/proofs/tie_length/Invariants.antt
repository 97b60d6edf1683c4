-- What is counted and the tie from here on are the whole tie. The measure is the record: the next tied one is below it. Assumes nothing.
use Rattle.std.proofs.Common.{◌≡◌, ◌+◌, length, unwrap_or}
use Rattle.legal.specs.Records.{number_of}
use Rattle.conflicts.specs.Slots.{tie_of}
use Rattle.conflicts.proofs.Slotted.{tie_on}
use Rattle.conflicts.proofs.tie_length.Given as goal

abbrev pub invariant-loop-at : goal.invariant-loop-at
invariant-loop-at l = l.number + length (tie_on l.at) ≡ length (tie_of l.i)

abbrev pub decreases-loop-at : goal.decreases-loop-at
decreases-loop-at l = unwrap_or (number_of l.at) 0
