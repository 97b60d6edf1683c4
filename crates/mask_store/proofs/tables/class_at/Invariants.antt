-- The flags below b are mask i's.
use Rattle.std.proofs.Common.{false}
use Rattle.lists.proofs.Tabled.{Tabled}
use Rattle.mask_store.specs.Masks.{mask_has}
use Rattle.mask_store.proofs.tables.class_at.Given as goal

abbrev pub invariant-loop-b : goal.invariant-loop-b
invariant-loop-b l = Tabled false 256 (mask_has l.tables l.i) l.flag-items l.b
