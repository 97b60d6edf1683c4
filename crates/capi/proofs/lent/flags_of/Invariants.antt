-- The loop of `lent::flags_of`: the flags so far are those of the class.
use Rattle.std.proofs.Common.{false}
use Rattle.lists.proofs.Tabled.{Tabled}
use Rattle.capi.specs.Lent.{is_flag}
use Rattle.capi.proofs.lent.flags_of.Given as goal

abbrev pub invariant-loop-b : goal.invariant-loop-b
invariant-loop-b l = Tabled false 256 (is_flag l.flags) l.flag-items l.b
