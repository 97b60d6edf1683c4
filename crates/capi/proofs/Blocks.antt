-- A block that takes bytes or is too short. Assumes nothing.
use mathlib.Core.Path.{◌≡◌}
use mathlib.Core.List.{List, ◌++◌}
use Prim.Native.Nat.{ℕ, ◌≤◌, ◌<◌}
use borrow.Author.Tests.{lt-ltb, le-ltb}
use lib.ListN.{length, drop}
use Rattle.capi.specs.Lent.{put}

module _ (bytes block : List ℕ) where
  pub put-short : length block < length bytes → put bytes block ≡ record { refusal = 255; block = block }
  unfolding put
  put-short h = rw (lt-ltb _ _ h)

  pub put-taken : length bytes ≤ length block → put bytes block ≡ record { refusal = 0; block = bytes ++ drop (length bytes) block }
  unfolding put
  put-taken h = rw (le-ltb _ _ h)
