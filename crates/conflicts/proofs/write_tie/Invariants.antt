-- After the kind and the number, the leaves from here on are still to be written. The measure is the record: the next tied one is below it. Assumes nothing.
use Rattle.std.proofs.Common.{◌≤◌, ◌+◌, length, unwrap_or}
use Rattle.lists.proofs.Runs.{Underway}
use Rattle.legal.specs.Records.{number_of}
use Rattle.conflicts.specs.Slots.{tie_of}
use Rattle.conflicts.proofs.Slotted.{tie_on}
use Rattle.conflicts.proofs.write_tie.Given as goal

abbrev pub invariant-loop-tie : goal.invariant-loop-tie
invariant-loop-tie l =
    record {
      room : l.at + 2 + length (tie_of l.i) ≤ length l.initial.errors;
      run : Underway l.initial.errors (l.at + 2) (tie_of l.i) l.errors l.k (tie_on l.tie);
    }

abbrev pub decreases-loop-tie : goal.decreases-loop-tie
decreases-loop-tie l = unwrap_or (number_of l.tie) 0
