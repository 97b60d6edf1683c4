-- A scan as the number that a caller holds: the offset that it is reading at, 0 at first; or the greatest `size_t` once it has ended. No text is
-- that long, so no scan reads at that offset. Definitions only.
use Rattle.std.specs.Prelude.{cond, ℕ, ◌-◌, ◌^◌, eqb}
use Rattle.scans.specs.declared.scan.Place.{Place}
use Rattle.scans.specs.declared.scan.Place.TheVariants.{Reading, Ended}
use Rattle.scans.specs.declared.scan.Scan.{Scan}
use Rattle.scans.specs.Scan.{reading_at, has_ended}

abbrev pub ended : ℕ
ended = 2 ^ 64 - 1

unfoldable pub scan_of : ℕ → Scan
scan_of number = cond (eqb number ended) has_ended (reading_at number)

abbrev pub place_number : Place → ℕ
place_number (Reading offset) = offset
place_number Ended = ended

abbrev pub number_of : Scan → ℕ
number_of scan = place_number scan.place
