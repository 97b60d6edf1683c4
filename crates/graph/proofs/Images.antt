-- The build of an image is the build of its words, wherever 13 does not refuse it. Assumes nothing.
use mathlib.Core.Path.{◌≡◌}
use mathlib.Core.List.{List}
use Prim.Native.Nat.{ℕ, ◌%◌, ◌≤◌}
use borrow.Author.Tests.{le-ltb}
use lib.ListN.{length}
use Rattle.graph.specs.New.{words_of, new_of, image_of}

pub image-built : (image graph errors : List ℕ) → length image % 2 ≡ 0 → length image ≤ 65536 → image_of image graph errors ≡ new_of (words_of image) graph errors
unfolding image_of
image-built image graph errors even short = rw (even, le-ltb 65536 (length image) short)
