-- The loop of `masks::flat`: the bytes so far are the tables' entries.
use Rattle.lists.proofs.Tabled.{Tabled}
use Rattle.capi.specs.Stores.{flat_at}
use Rattle.capi.proofs.masks.flat.Given as goal

abbrev pub invariant-loop-i : goal.invariant-loop-i
invariant-loop-i l = Tabled 0 2048 (flat_at l.luts) l.byte-items l.i
