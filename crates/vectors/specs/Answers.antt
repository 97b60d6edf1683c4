-- Answers of calls, as a list tells them: by the number of a refusal, 0 for none, and a value. Definitions only.
use Rattle.std.specs.Prelude.{◌≡◌, ◌≢◌, ℕ, Option, Some, None, Result, Ok, Err}
use Rattle.refusals.specs.Refusals.{number}
use Rattle.refusals.specs.declared.Refusal.{Refusal}

-- a refusal is the one that has the number, and none where no refusal has it
abbrev pub Named : ℕ → Option Refusal → Type 0
Named n (Some r) = number r ≡ n
Named n None = (r : Refusal) → number r ≢ n

-- an answer is that value where the number is 0, else the refusal that has the number, and none where no refusal has it
abbrev pub Told : {A : Type 0} → ℕ → A → Option (Result A Refusal) → Type 0
Told n a (Some (Ok b)) = (n ≡ 0) × (b ≡ a)
Told n a (Some (Err r)) = number r ≡ n
Told n a None = (n ≢ 0) × ((r : Refusal) → number r ≢ n)
