-- The number of the digits so far.
use Rattle.std.proofs.Common.{◌≡◌}
use lib.ListN.{take}
use Rattle.angles.specs.Angles.{number}
use Rattle.angles.proofs.digits.number.Given as goal

abbrev pub invariant-loop-digit : goal.invariant-loop-digit
invariant-loop-digit l = l.n ≡ number (take l.digit-index l.digits)
