-- The printed lines and the checksum, byte by byte. Assumes nothing.
use mathlib.Core.Path.{◌≡◌}
use mathlib.Core.List.{List, [], ◌++◌}
use Prim.Native.Nat.{ℕ, ◌+◌, ◌*◌, ◌%◌, ◌≤◌, ◌<◌}
use native.Mathlib.Numerals.{add-one}
use lib.ListN.{length, get_or, drop, drop_of_length-le}
use lib.Seq.{drop-cons}
use Rattle.vectors.specs.Report.{name_byte, after_byte, kind_lines, checksum}
use Rattle.vectors.specs.declared.walk.Walk.{Walk}

module _ (names : List ℕ) (w : Walk) (k i : ℕ) where
  pub lines_next : i < length names
      → kind_lines (drop i names) w k ≡ name_byte (get_or names i 0) w k ++ kind_lines (drop (i + 1) names) w (after_byte (get_or names i 0) k)
  unfolding kind_lines
  lines_next h = rw (add-one, drop-cons names i 0 h)

  pub lines-done : length names ≤ i → kind_lines (drop i names) w k ≡ []
  unfolding kind_lines
  lines-done h = rw (drop_of_length-le names {i = i} h)

module _ (list : List ℕ) (sum i : ℕ) where
  pub sum-next : i < length list → checksum sum (drop i list) ≡ checksum ((257 * sum + get_or list i 0) % 4294967291) (drop (i + 1) list)
  unfolding checksum
  sum-next h = rw (add-one, drop-cons list i 0 h)

  pub sum_done : length list ≤ i → checksum sum (drop i list) ≡ sum
  unfolding checksum
  sum_done h = rw (drop_of_length-le list {i = i} h)
