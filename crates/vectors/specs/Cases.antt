-- A case of a list (docs/ORACLE.md, "Stored lists"): byte, its kind; byte, how many numbers; byte, how many parts; the numbers, a word each; for each
-- part a word, where it ends, counted from where the first begins; the parts. Definitions only.
use Rattle.std.specs.Prelude.{Bool, ◌&&◌, List, ℕ, zero, suc, ◌+◌, ◌-◌, ◌*◌, eqb, length}
use Rattle.vectors.specs.Reading.{byte_at, word_at, part_at}

-- the case at a place of a list, before which a word says its length; none where the list has not all of it
unfoldable pub case_at : List ℕ → ℕ → List ℕ
case_at list at = part_at list (at + 4) (word_at list at)

abbrev pub kind_of : List ℕ → ℕ
kind_of case = byte_at case 0

abbrev pub number_of : List ℕ → ℕ → ℕ
number_of case j = word_at case (3 + 4 * j)

-- where the parts begin
abbrev pub first_part : List ℕ → ℕ
first_part case = 3 + 4 * (byte_at case 1 + byte_at case 2)

-- where the first k parts end
unfoldable pub end_of : List ℕ → ℕ → ℕ
end_of case zero = first_part case
end_of case (suc k) = first_part case + number_of case (byte_at case 1 + k)

-- part k; none where it ends before it begins, or the case has not all of it
unfoldable pub part_of : List ℕ → ℕ → List ℕ
part_of case k = part_at case (end_of case k) (end_of case (suc k) - end_of case k)

-- so many numbers and parts, and no byte more or less
unfoldable pub shaped : List ℕ → ℕ → ℕ → Bool
shaped case numbers parts = eqb (byte_at case 1) numbers && (eqb (byte_at case 2) parts && eqb (end_of case parts) (length case))
