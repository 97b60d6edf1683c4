-- The refusals by their numbers (docs/REFUSALS.md), and the answers of calls that may refuse. Definitions only.
use Rattle.std.specs.Prelude.{Result, Ok, Err, List, [], ◌∷◌, ℕ, zero, suc, get_or}
use Rattle.lists.specs.Report.{Report, reporting, refusing}
use Rattle.refusals.specs.declared.Refusal.{Refusal}
use Rattle.refusals.specs.declared.Refusal.TheVariants.{TableHeader, TableCounts, TableLength, TableStart, TableEmptyFlag, TableTarget, TableMatches, GraphRoom, ErrorRoom, TreeForm, PriorityLimit, GraphForm, ImageLength, PlanOrOffset, Store, ScanEnded, NoRoom}

abbrev pub number : Refusal → ℕ
number TableHeader = 1
number TableCounts = 2
number TableLength = 3
number TableStart = 4
number TableEmptyFlag = 5
number TableTarget = 6
number TableMatches = 7
number GraphRoom = 8
number ErrorRoom = 9
number TreeForm = 10
number PriorityLimit = 11
number GraphForm = 12
number ImageLength = 13
number PlanOrOffset = 14
number Store = 15
number ScanEnded = 16
number NoRoom = 29

-- those from 1 on, in order
abbrev pub in_order : List Refusal
in_order =
    TableHeader
    ∷ TableCounts
    ∷ TableLength
    ∷ TableStart
    ∷ TableEmptyFlag
    ∷ TableTarget
    ∷ TableMatches
    ∷ GraphRoom
    ∷ ErrorRoom
    ∷ TreeForm
    ∷ PriorityLimit
    ∷ GraphForm
    ∷ ImageLength
    ∷ PlanOrOffset
    ∷ Store
    ∷ ScanEnded
    ∷ []

-- the refusal that has a number; of a number that none has, this means nothing
abbrev pub numbered : ℕ → Refusal
numbered zero = NoRoom
numbered (suc n) = get_or in_order n NoRoom

-- ---- answers

-- a call that is refused by n, or that answers a where n is 0
abbrev pub answered : {A : Type 0} → ℕ → A → Result A Refusal
answered zero a = Ok a
answered (suc n) a = Err (numbered (suc n))

-- an answer in numbers: its values; or the refusal's number, and zeros for k values
abbrev pub report : {A : Type 0} → (A → List ℕ) → ℕ → Result A Refusal → Report
report values k (Ok a) = reporting (values a)
report values k (Err r) = refusing (number r) k
