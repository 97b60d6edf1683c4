-- Match records as the code holds them. Definitions only.
use Rattle.std.specs.Prelude.{ℕ, Option, Some, None}
use Rattle.legal.specs.declared.Record.{Record}

-- the number of a record, if there is one
abbrev pub number_of : Option Record → Option ℕ
number_of None = None
number_of (Some r) = Some r.number
