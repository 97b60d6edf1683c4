-- What a call of `read` or `write` has done with the bytes it was handed. Definitions only.
use Rattle.std.specs.Prelude.{ℕ, ◌≤◌, Option, Some, None, Result, Ok, Err}
use Rattle.std.specs.declared.io.Error.{Error}

-- it has moved no more bytes than it was handed
abbrev pub StepWithin : ℕ → Result (Option ℕ) Error → Type 0
StepWithin most (Ok (Some n)) = n ≤ most
StepWithin most (Ok None) = Unit {0}
StepWithin most (Err e) = Unit {0}

-- no more bytes are read than there is room for
abbrev pub ReadWithin : ℕ → Option ℕ → Type 0
ReadWithin most (Some n) = n ≤ most
ReadWithin most None = Unit {0}
