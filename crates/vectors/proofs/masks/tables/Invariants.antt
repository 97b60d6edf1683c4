-- The loop of `masks::tables`: the entries so far have their masks' bits.
use Rattle.std.proofs.Common.{ℕ, ◌*◌, ◌/◌, ◌%◌}
use Rattle.lists.proofs.Tabled.{Tabled}
use Rattle.vectors.specs.Masks.{masked}
use Rattle.vectors.proofs.masks.tables.Given as goal

abbrev pub invariant-loop-i : goal.invariant-loop-i
invariant-loop-i l = Tabled 0 2048 (λ (j : ℕ). masked l.fill l.classes (8 * (j / 256)) (j % 256) 8) l.bits-items l.i
