-- The flags below b are written.
use Rattle.std.proofs.Common.{◌≡◌}
use lib.ListN.{take}
use Rattle.mask_store.specs.Masks.{written}
use Rattle.mask_store.proofs.tables.write_mask.Given as goal

abbrev pub invariant-loop-b : goal.invariant-loop-b
invariant-loop-b l = l.tables ≡ written l.fn.tables l.i (take l.b l.class)
