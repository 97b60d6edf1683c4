-- A buffer in which nothing is refused for want of room. Assumes nothing.
use mathlib.Core.Path.{◌≡◌}
use mathlib.Core.List.{List}
use Prim.Native.Nat.{ℕ, ◌≤◌}
use lib.ListN.{length}
use Rattle.std.specs.Prelude.{Ok}
use Rattle.display.proofs.Rooms.{written-room}
use Rattle.print.specs.Print.{printed, print_call}

pub print-room : (image found : List ℕ) → length (printed image) ≤ length found → (print_call image found).answer ≡ Ok (length (printed image))
unfolding print_call
print-room image found = written-room (printed image) found
