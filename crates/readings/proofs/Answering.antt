-- What a call answers, once its refusals are decided. Assumes nothing.
use Rattle.std.specs.Prelude.{Ok, Err}
use mathlib.Core.Path.{◌≡◌, refl, ap}
use mathlib.Core.Bool.{true, false}
use mathlib.Core.List.{List}
use Prim.Native.Nat.{ℕ, zero, suc}
use Rattle.refusals.specs.declared.Refusal.TheVariants.{GraphForm}
use Rattle.refusals.specs.Refusals.{numbered, answered}
use Rattle.graph_rules.specs.Table.{table_of, refusal}
use Rattle.graph_rules.specs.Graph.{graph_fits, graph_from}
use Rattle.graph_rules.specs.Read.{read_graph, read_table}
use Rattle.readings.specs.Answers.{graph_read, table_read}

pub graph-refused : (graph text : List ℕ) → graph_fits graph ≡ false → graph_read graph text ≡ Err GraphForm
unfolding graph_read
graph-refused graph text e = rw (e, graph_read)

pub graph-answered : (graph text : List ℕ) → graph_fits graph ≡ true → graph_read graph text ≡ Ok (read_graph (graph_from graph) text)
unfolding graph_read
graph-answered graph text e = rw (e, graph_read)

pub table-refused : (table text : List ℕ) (n : ℕ) → n ≡ refusal table → (n ≡ 0 → ⊥) → table_read table text ≡ Err (numbered n)
unfolding table_read
table-refused table text n e f = rw (← e) (go n f)
  where
    go : (m : ℕ) → (m ≡ 0 → ⊥) → answered m (read_table (table_of table) text) ≡ Err (numbered m)
    go zero f = absurd (f refl)
    go (suc m) f = refl

pub table-answered : (table text : List ℕ) → refusal table ≡ 0 → table_read table text ≡ Ok (read_table (table_of table) text)
unfolding table_read
table-answered table text e = ap (λ (n : ℕ). answered n (read_table (table_of table) text)) e
