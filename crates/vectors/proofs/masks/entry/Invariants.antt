-- The loop of `masks::entry`: one mask after another.
use Rattle.std.proofs.Common.{◌≡◌, ◌*◌}
use Rattle.vectors.specs.Masks.{masked}
use Rattle.vectors.proofs.masks.entry.Given as goal

abbrev pub invariant-loop-k : goal.invariant-loop-k
invariant-loop-k l = l.bits ≡ masked l.fill l.classes (8 * l.t) l.b l.k
