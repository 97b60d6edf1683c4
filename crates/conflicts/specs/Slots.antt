-- The conflict list as the code holds it: records where ties begin, put in one by one at their places. Definitions only.
use Rattle.std.specs.Prelude.{◌≡◌, Option, None, Bool, true, false, ◌&&◌, List, [], ◌∷◌, ◌++◌, ℕ, suc, ◌-◌, ◌≤◌, ◌<◌, leb, length, get_or, take, drop}
use Rattle.lists.specs.Lists.{before}
use Rattle.graph_rules.specs.Table.{Table, table_of}
use Rattle.graph_rules.specs.Build.{contenders}
use Rattle.legal.specs.declared.Record.{Record}
use Rattle.leaves.specs.Chains.{top_of, tie_from}
use Rattle.graph_rules.specs.Layout.{most_states}

-- the leaves of the tie that begins at a record
abbrev pub tie_of : Record → List ℕ
tie_of r = tie_from (table_of r.table.words.now) r.number

-- the record where the tie of state s of a set begins; none: it has no tie, or is not in the set
unfoldable pub tied_at : Table → List Bool → ℕ → Option ℕ
tied_at t set s = elim (get_or set s false && leb 2 (length (contenders t s))) [ true ↦ top_of t s | false ↦ None ]

-- how many of a list's elements stand before the first that a comes before
abbrev pub slot : List ℕ → List (List ℕ) → ℕ
slot a [] = 0
slot a (b ∷ l) = elim (before a b) [ true ↦ 0 | false ↦ suc (slot a l) ]

-- v at place p, and the elements from p up to k one place on
unfoldable pub put_in : List ℕ → ℕ → ℕ → ℕ → List ℕ
put_in l k p v = take p l ++ (v ∷ (take (k - p) (drop p l) ++ drop (suc k) l))

-- the first k are numbers of the r records
pub record Held (r : ℕ) (l : List ℕ) (k : ℕ) : Type 0 where
  pub few : k ≤ most_states
  pub long : k ≤ length l
  pub low : (j : ℕ) → j < k → (0 < get_or l j 0) × (get_or l j 0 ≤ r)

-- and the ties that begin there stand in order
pub record InOrder (t : Table) (r : ℕ) (l : List ℕ) (k : ℕ) : Type 0 where
  pub held : Held r l k
  pub ordered : (i j : ℕ) → i ≤ j → j < k → before (tie_from t (get_or l i 0)) (tie_from t (get_or l j 0)) ≡ true
