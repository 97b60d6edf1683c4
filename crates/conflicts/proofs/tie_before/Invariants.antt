-- The ties from here on compare as the two do. The measure is the first one's record: the next tied one is below it. Assumes nothing.
use Rattle.std.proofs.Common.{◌≡◌}
use Rattle.lists.specs.Lists.{before}
use Rattle.conflicts.specs.Slots.{tie_of}
use Rattle.conflicts.proofs.tie_before.Given as goal

abbrev pub invariant-loop-i : goal.invariant-loop-i
invariant-loop-i l = before (tie_of l.i) (tie_of l.j) ≡ before (tie_of l.a) (tie_of l.b)

abbrev pub decreases-loop-i : goal.decreases-loop-i
decreases-loop-i l = l.i.number
