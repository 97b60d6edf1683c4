-- Ranges and comparisons in one block: arrays of 128 bytes one after another. Definitions only.
use Rattle.std.specs.Prelude.{List, ◌++◌, ℕ, map}
use Rattle.classes.specs.Classes.{Class, ranges, comparisons}
use Rattle.classes.specs.ClassAnswers.{as_byte_class, as_comparisons}
use Rattle.classes.specs.declared.byte_class.ByteClass.{ByteClass}
use Rattle.classes.specs.declared.byte_class.Comparisons.{Comparisons}

abbrev pub ranges_of : Class → ByteClass
ranges_of class = as_byte_class (ranges class)

-- all first bytes, all last ones
abbrev pub range_bytes : ByteClass → List ℕ
range_bytes r = map (λ range. range.first) r.ranges ++ map (λ range. range.last) r.ranges

abbrev pub cmp_of : Class → Comparisons
cmp_of class = as_comparisons (comparisons class)

-- all first bytes, all last ones, how many exceptions each has, the exceptions
abbrev pub cmp_bytes : Comparisons → List ℕ
cmp_bytes m =
    (map (λ comparison. comparison.first) m.list ++ map (λ comparison. comparison.last) m.list)
    ++ (map (λ comparison. comparison.holes) m.list ++ m.except)
