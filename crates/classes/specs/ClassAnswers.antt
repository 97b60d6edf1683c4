-- What the calls over a class answer: its ranges and its comparisons, laid out in arrays of 128 entries. Definitions only.
use Rattle.std.specs.Prelude.{List, [], ◌∷◌, ◌++◌, map, ℕ, ◌-◌, length, take, drop, replicate}
use Rattle.classes.specs.Classes.{Range, Comparison}
use Rattle.classes.specs.declared.byte_class.ByteClass.{ByteClass}
use Rattle.classes.specs.declared.byte_class.Comparison.{Comparison as Entry}
use Rattle.classes.specs.declared.byte_class.Comparisons.{Comparisons}

-- an array of 128: these entries, then zeros
unfoldable pub row : {A : Type 0} → A → List A → List A
row zeros l = l ++ replicate (128 - length l) zeros

-- ---- "A class is a set of bytes held as maximal ranges"

abbrev pub no_range : Range
no_range = record { first = 0; last = 0 }

-- ranges as the struct that holds them
unfoldable pub as_byte_class : List Range → ByteClass
as_byte_class rs = record { ranges = row no_range rs; count = length rs }

-- ---- comparisons: each range with the number of its exceptions, and all the exceptions in one row

abbrev pub exceptions : List Comparison → List ℕ
exceptions [] = []
exceptions (m ∷ ms) = m.except ++ exceptions ms

abbrev pub entry_of : Comparison → Entry
entry_of m = record { first = m.range.first; last = m.range.last; holes = length m.except }

abbrev pub no_entry : Entry
no_entry = record { first = 0; last = 0; holes = 0 }

unfoldable pub as_comparisons : List Comparison → Comparisons
as_comparisons ms =
    record { list = row no_entry (map entry_of ms); except = row 0 (exceptions ms); count = length ms }

-- read back: the comparisons of these entries and these exceptions; the last ones have fewer where the exceptions end before
abbrev pub listed : List Entry → List ℕ → List Comparison
listed [] xs = []
listed (e ∷ es) xs =
    record { range = record { first = e.first; last = e.last }; except = take e.holes xs } ∷ listed es (drop e.holes xs)
