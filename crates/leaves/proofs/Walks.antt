-- A chain walked record by record: what holds from a record on, and from the next of its chain on. Assumes nothing.
use Rattle.std.specs.Prelude.{Option, Some, None, IfSome}
use mathlib.Core.Path.{◌≡◌, sym, ap, ◌∙◌}
use Prim.Native.Nat.{ℕ, max}
use Rattle.graph_rules.specs.Table.{Table, table_of, row_of, match_of}
use Rattle.graph_rules.specs.Graph.{or_none}
use Rattle.graph_rules.specs.Build.{leaf_of}
use Rattle.legal.specs.declared.Table as legal
use Rattle.legal.specs.declared.Record.{Record}
use Rattle.legal.specs.Records.{number_of}
use Rattle.legal.proofs.Views.{named-at}
use Rattle.leaves.specs.Chains.{priority_at, highest_from, first_with, top_of, next_tied}
use Rattle.leaves.proofs.Contenders.{highest-end, highest-step, first-end, first-here, first-later, leaf-one, leaf-tied}

-- the highest priority from a record on, if there is one
abbrev pub highest_on : Option Record → ℕ
highest_on None = 0
highest_on (Some r) = highest_from (table_of r.table.words.now) r.number

-- and the first record of priority p
abbrev pub first_on : ℕ → Option Record → Option ℕ
first_on p None = None
first_on p (Some r) = first_with (table_of r.table.words.now) p r.number

module _ (r : Record) where
  abbrev t : Table
  t = table_of r.table.words.now

  pub here-first : (p : ℕ) → priority_at t r.number ≡ p → Some r.number ≡ first_on p (Some r)
  here-first p e = sym (first-here r.table.words.now r.table.legal p r.number r.some r.there e)

  -- with the next of its chain
  module _ (o : Option Record) (number : number_of o ≡ or_none 0 (match_of t r.number).next) (table : IfSome o (λ n. n.table ≡ r.table)) where
    pub highest-next : highest_on (Some r) ≡ max (priority_at t r.number) (highest_on o)
    highest-next =
        highest-step r.table.words.now r.table.legal r.number r.some r.there
        ∙ ap (max (priority_at t r.number)) (named-at highest_from r.table (match_of t r.number).next 0 (highest-end r.table.words.now r.table.legal) o number table)

    first-from : (p : ℕ) → first_with t p (match_of t r.number).next ≡ first_on p o
    first-from p = named-at (λ t i. first_with t p i) r.table (match_of t r.number).next None (first-end r.table.words.now r.table.legal p) o number table

    pub first-next : (p : ℕ) → (priority_at t r.number ≡ p → ⊥) → first_on p (Some r) ≡ first_on p o
    first-next p e = first-later r.table.words.now r.table.legal p r.number r.some r.there e ∙ first-from p

    pub tied-next : next_tied t r.number ≡ first_on (priority_at t r.number) o
    unfolding next_tied
    tied-next = first-from (priority_at t r.number)

-- ---- a state's chain, from its head

module _ (table : legal.Table) (s : ℕ) where
  -- the first record of the highest priority from record i on
  abbrev first_highest : Table → ℕ → Option ℕ
  first_highest t i = first_with t (highest_from t i) i

  pub top-head : (o : Option Record) → number_of o ≡ or_none 0 (row_of (table_of table.words.now) s).head → IfSome o (λ r. r.table ≡ table)
      → top_of (table_of table.words.now) s ≡ first_on (highest_on o) o
  unfolding top_of
  top-head None number of =
      named-at first_highest table (row_of (table_of table.words.now) s).head None (first-end table.words.now table.legal _) None number of
  top-head (Some r) number of =
      named-at first_highest table (row_of (table_of table.words.now) s).head None (first-end table.words.now table.legal _) (Some r) number of

  -- and its leaf, from its top record
  module _ (r : Record) (of : r.table ≡ table) (top : Some r.number ≡ top_of (table_of table.words.now) s) where
    top-at : top_of (table_of r.table.words.now) s ≡ Some r.number
    top-at = ap (λ (t : legal.Table). top_of (table_of t.words.now) s) of ∙ sym top

    leaf-at : leaf_of (table_of r.table.words.now) s ≡ leaf_of (table_of table.words.now) s
    leaf-at = ap (λ (t : legal.Table). leaf_of (table_of t.words.now) s) of

    pub one-leaf : None ≡ next_tied (table_of r.table.words.now) r.number → Some (match_of (table_of r.table.words.now) r.number).leaf ≡ leaf_of (table_of table.words.now) s
    one-leaf e = sym (leaf-one r.table.words.now r.table.legal s r.number top-at (sym e)) ∙ leaf-at

    pub tied-leaf : (j : ℕ) → Some j ≡ next_tied (table_of r.table.words.now) r.number → None ≡ leaf_of (table_of table.words.now) s
    tied-leaf j e = sym (leaf-tied r.table.words.now r.table.legal s r.number top-at j (sym e)) ∙ leaf-at
