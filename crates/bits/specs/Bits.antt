-- The bits of a number. Definitions only.
use Rattle.std.specs.Prelude.{Bool, cond, ℕ, suc, ◌+◌, ◌*◌, ◌/◌, ◌%◌, ◌^◌, eqb}

-- bit k of a number: 0 or 1
abbrev pub bit : ℕ → ℕ → ℕ
bit w k = w / 2 ^ k % 2

-- whether it is set
abbrev pub is_set : ℕ → ℕ → Bool
is_set k w = eqb (bit w k) 1

-- a number with bit k made 1 or 0, and no other bit changed
abbrev pub with_bit : ℕ → ℕ → Bool → ℕ
with_bit k w flag = w / 2 ^ suc k * 2 ^ suc k + cond flag (2 ^ k) 0 + w % 2 ^ k
