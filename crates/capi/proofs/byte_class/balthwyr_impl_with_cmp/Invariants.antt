-- The bytes of the comparisons so far stand in their columns.
use Rattle.std.proofs.Common.{◌≡◌}
use Rattle.capi.proofs.Columns.{three}
use Rattle.capi.proofs.byte_class.balthwyr_impl_with_cmp.Given as goal

abbrev pub invariant-loop-i : goal.invariant-loop-i
invariant-loop-i l = l.bytes ≡ three (λ comparison. comparison.first) (λ comparison. comparison.last) (λ comparison. comparison.holes) l.comparison-items l.i
