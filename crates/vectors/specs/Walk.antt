-- The walk through a list, case by case, and what is counted on the way. Definitions only.
use Rattle.std.specs.Prelude.{Bool, true, false, cond, List, ℕ, ◌+◌, min, ltb, length, slice_index_or, slice_set, replicate, Option, Some, None}
use Rattle.vectors.specs.Reading.{word_at, byte_at}
use Rattle.vectors.specs.Cases.{case_at, kind_of}
use Rattle.vectors.specs.declared.walk.Tally.{Tally}
use Rattle.vectors.specs.declared.walk.Walk.{Walk}

-- one more; the largest number of 64 bits stays
abbrev pub more : ℕ → ℕ
more n = min (n + 1) 18446744073709551615

-- the kind of the case at a place
abbrev pub kind_at : List ℕ → ℕ → ℕ
kind_at list at = byte_at list (at + 4)

abbrev pub no_cases : Tally
no_cases = record { alike = 0; differ = 0 }

-- a tally with one case more
abbrev pub told : Tally → Bool → Tally
told t true = record { alike = more t.alike; differ = t.differ }
told t false = record { alike = t.alike; differ = more t.differ }

-- the tallies with one case more of a kind; all kinds from 15 on count as one
abbrev pub counted : List Tally → ℕ → Bool → List Tally
counted tallies kind same = slice_set tallies (min kind 15) (told (slice_index_or tallies (min kind 15) no_cases) same)

-- which case was the first that differs, after one more
abbrev pub first_of : Option ℕ → ℕ → Bool → Option ℕ
first_of first number true = first
first_of (Some n) number false = Some n
first_of None number false = Some number

-- before the first case; cases of a kind below `leading` belong to themselves
abbrev pub begun : ℕ → Walk
begun leading = record {
  at = 0;
  host = 0;
  leading = leading;
  cases = 0;
  first = None;
  tallies = replicate 16 no_cases;
}

-- whether the next case belongs to itself
abbrev pub leads : List ℕ → Walk → Bool
leads list w = ltb (kind_of (case_at list w.at)) w.leading

-- the case to which the next one belongs: itself, or the last that did
unfoldable pub host_of : List ℕ → Walk → List ℕ
host_of list w = cond (leads list w) (case_at list w.at) (case_at list w.host)

-- the next case was alike or not; and on to the one after it, or past the end of a list that has not all of it
unfoldable pub noted : List ℕ → Walk → Bool → Walk
noted list w same = record {
  at = min (w.at + (4 + word_at list w.at)) (length list + 1);
  host = cond (leads list w) w.at w.host;
  leading = w.leading;
  cases = more w.cases;
  first = first_of w.first w.cases same;
  tallies = counted w.tallies (kind_at list w.at) same;
}
