-- A replay: every case of a list gets a verdict, in turn. Definitions only.
use Rattle.std.specs.Prelude.{◌≡◌, Bool, List, ℕ, ◌≤◌, ◌<◌, length}
use Rattle.vectors.specs.Cases.{case_at}
use Rattle.vectors.specs.Walk.{host_of, noted}
use Rattle.vectors.specs.declared.walk.Walk.{Walk}
use Rattle.vectors.specs.declared.replay.Turn.{Turn}

-- a turn is on that case, which belongs to that host and has that number
pub record at_turn (turn : Turn) (host case : List ℕ) (number : ℕ) : Type 0 where
  pub same_host : turn.host.now ≡ host
  pub same_case : turn.case.now ≡ case
  pub same_number : turn.number ≡ number

-- a verdict that a call may give on a case; `Gives` says which it may give on a turn
abbrev pub Verdict : (Turn → Bool → Type 0) → List ℕ → List ℕ → ℕ → Bool → Type 0
Verdict Gives host case number same = (turn : Turn) × Gives turn same × at_turn turn host case number

-- from one walk the list is walked to its end, case by case, each with such a verdict, and there the walk is the other
pub data Replayed (list : List ℕ) (Gives : Turn → Bool → Type 0) : Walk → Walk → Type 0 where
  ended : {w : Walk} → length list ≤ w.at → Replayed list Gives w w
  turned : {w end : Walk} {same : Bool} → w.at < length list → Verdict Gives (host_of list w) (case_at list w.at) w.cases same
      → Replayed list Gives (noted list w same) end → Replayed list Gives w end
