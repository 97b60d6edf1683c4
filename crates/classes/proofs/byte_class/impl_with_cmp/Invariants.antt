-- The comparisons of the ranges so far are stored.
use Rattle.std.proofs.Common.{◌≡◌}
use Rattle.classes.specs.Classes.{ranges}
use Rattle.classes.proofs.Joining.{Joining}
use Rattle.classes.proofs.byte_class.impl_with_cmp.Given as goal

abbrev pub invariant-loop-range : goal.invariant-loop-range
invariant-loop-range l = (l.range-items ≡ ranges l.class) × Joining (ranges l.class) l.list l.except l.count l.gaps l.range-index
