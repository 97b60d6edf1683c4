-- The bytes of the ranges so far stand in their columns.
use Rattle.std.proofs.Common.{◌≡◌}
use Rattle.capi.proofs.Columns.{two}
use Rattle.capi.proofs.byte_class.balthwyr_ranges.Given as goal

abbrev pub invariant-loop-i : goal.invariant-loop-i
invariant-loop-i l = l.bytes ≡ two (λ range. range.first) (λ range. range.last) l.range-items l.i
