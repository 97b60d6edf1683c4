-- What is known of a worklist: the numbers that have been met, and those of them that wait, the first to be taken last. Definitions only.
use Rattle.std.specs.Prelude.{Bool, false, true, cond, List, [], ◌∷◌, ◌++◌, ℕ, get_or, set, replicate}

pub record Work : Type 0 where
  pub seen : List Bool
  pub waiting : List ℕ

-- of numbers below n, none is met
abbrev pub begun : ℕ → Work
begun n = record { seen = replicate n false; waiting = [] }

-- a number that is met for the first time waits
abbrev pub pushed : Work → ℕ → Work
pushed w k = cond (get_or w.seen k false) w (record { seen = set w.seen k true; waiting = w.waiting ++ (k ∷ []) })
