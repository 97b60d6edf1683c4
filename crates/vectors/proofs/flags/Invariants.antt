-- The loop of `flags`: the flags so far are those of the class.
use Rattle.std.proofs.Common.{false}
use Rattle.lists.proofs.Tabled.{Tabled}
use Rattle.vectors.specs.Reading.{bit_at}
use Rattle.vectors.proofs.flags.Given as goal

abbrev pub invariant-loop-b : goal.invariant-loop-b
invariant-loop-b l = Tabled false 256 (bit_at l.list l.at) l.flag-items l.b
