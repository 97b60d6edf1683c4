-- Match chains by their records (rule 3): what the functions that walk a chain answer. That a state's contenders are the tie that begins at its top
-- record, and that a tie goes on at its next record, is in proofs/Contenders. Definitions only.
use Rattle.std.specs.Prelude.{List, [], ◌∷◌, map, true, false, ℕ, zero, suc, eqb, Option, Some, None}
use Rattle.lists.specs.Lists.{those}
use Rattle.graph_rules.specs.Table.{Table, row_of, leaf_at, match_of}
use Rattle.graph_rules.specs.Build.{highest}

-- the numbers of the records of the chain from record i, with at most k records
abbrev pub records_from : Table → ℕ → ℕ → List ℕ
records_from t zero i = []
records_from t (suc k) i = elim (eqb i 0) [ true ↦ [] | false ↦ i ∷ records_from t k (match_of t i).next ]

-- all of them: a record's next is below its own number
unfoldable pub records : Table → ℕ → List ℕ
records t i = records_from t i i

-- the priority of record i's leaf
unfoldable pub priority_at : Table → ℕ → ℕ
priority_at t i = (leaf_at t (match_of t i).leaf).priority

-- the highest priority in the chain from record i
unfoldable pub highest_from : Table → ℕ → ℕ
highest_from t i = highest (map (priority_at t) (records t i))

-- the first of a list, if it has one
abbrev pub first_of : List ℕ → Option ℕ
first_of [] = None
first_of (i ∷ l) = Some i

-- the first record of the chain from record i whose leaf has priority p
unfoldable pub first_with : Table → ℕ → ℕ → Option ℕ
first_with t p i = first_of (those (λ j. eqb (priority_at t j) p) (records t i))

-- the first record of a state's chain whose leaf has the highest priority in it; none: the chain is empty
unfoldable pub top_of : Table → ℕ → Option ℕ
top_of t s = let h = (row_of t s).head in first_with t (highest_from t h) h

-- the next record of the chain after record i whose leaf has the same priority
unfoldable pub next_tied : Table → ℕ → Option ℕ
next_tied t i = first_with t (priority_at t i) (match_of t i).next

-- the leaves of the chain from record i that have the priority of its first
unfoldable pub tie_from : Table → ℕ → List ℕ
tie_from t i = map (λ j. (match_of t j).leaf) (those (λ j. eqb (priority_at t j) (priority_at t i)) (records t i))

-- those of the tie that begins at a record, if there is one
abbrev pub tie_at : Table → Option ℕ → List ℕ
tie_at t None = []
tie_at t (Some i) = tie_from t i
