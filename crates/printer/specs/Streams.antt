-- The bytes that go from a reader to a writer, where they are known: `old` and `new` are what a reader has left, or what a writer holds. Definitions only.
use Rattle.std.specs.Prelude.{◌≡◌, ◌≢◌, ℕ, ◌<◌, List, min, take, length, Option, Some, None, Result, Ok, Err}
use Rattle.std.specs.Io.KnownBytes.{Consumes, IsAtEnd}
use Rattle.std.specs.IoError.{error_kind}
use Rattle.std.specs.declared.io.Error.{Error}
use Rattle.std.specs.declared.io.ErrorKind.TheVariants.{Interrupted}

-- a step says of a call what the call answered: how many of the `most` bytes at hand it moved, none where a signal came first; that there are none; or
-- why it failed
abbrev pub Says : ℕ → Result ℕ Error → Result (Option ℕ) Error → Type 0
Says most (Ok m) (Ok (Some n)) = (n ≡ min m most) × (0 < m)
Says most (Ok m) (Ok None) = m ≡ 0
Says most (Ok m) (Err f) = ⊥
Says most (Err e) (Ok (Some n)) = (n ≡ 0) × (error_kind e ≡ Interrupted)
Says most (Err e) (Ok None) = ⊥
Says most (Err e) (Err f) = (f ≡ e) × (error_kind e ≢ Interrupted)

-- what was read is the front of what the reader had, and all of it, where there was room for more
abbrev pub Took : Option (List ℕ) → Option (List ℕ) → Option ℕ → List ℕ → Type 0
Took old new (Some n) buf = Consumes old new (take n buf) × (n < length buf → IsAtEnd new)
Took old new None buf = Unit {0}

-- the image that an input is: an image has at most 65,536 bytes, and one more tells that it is longer
abbrev pub input_image : List ℕ → List ℕ
input_image input = take 65537 input
