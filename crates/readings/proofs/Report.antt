-- What `read_graph` and `read_table` tell in numbers: 12, or 1 to 7, with zeros; or whether there is a reading, its leaf and its end. Assumes
-- nothing.
use Rattle.std.specs.Prelude.{Some, None, Ok, Err}
use mathlib.Core.Path.{◌≡◌, refl, sym, ap, ◌∙◌}
use mathlib.Core.Bool.{Bool, true, false, not}
use mathlib.Core.List.{List}
use Prim.Native.Nat.{ℕ, ◌<◌}
use native.Mathlib.Omega.{arith}
use lib.ListN.{length}
use Rattle.lists.specs.Report.{on, answering}
use Rattle.lists.proofs.Reports.{refusing-as}
use Rattle.refusals.specs.declared.Refusal.TheVariants.{GraphForm}
use Rattle.refusals.specs.Refusals.{answered, report}
use Rattle.refusals.proofs.Numbers.{answered-told}
use Rattle.graph_rules.specs.Table.{table_of, refusal}
use Rattle.graph_rules.specs.Graph.{graph_fits, graph_from}
use Rattle.graph_rules.specs.Read.{Reading, read_graph, read_table}
use Rattle.graph_rules.proofs.Shape.{refusal-small}
use Rattle.readings.specs.Answers.{found_values, read_report, graph_read, table_read}
use Rattle.readings.specs.Report.{read_values}

three-values : (r : Reading) → length (read_values r) ≡ 3
three-values None = refl
three-values (Some f) = refl

same-values : (r : Reading) → found_values r ≡ read_values r
same-values None = refl
same-values (Some f) = refl

-- a call that is refused by n, or answers a reading where n is 0
pub refused-or-read : (n : ℕ) (r : Reading) → n < 17 → read_report (answered n r) ≡ answering n (read_values r)
refused-or-read n r h =
    ap (λ (k : ℕ). report found_values k (answered n r)) (sym (ap length (same-values r) ∙ three-values r))
    ∙ (answered-told found_values n r h ∙ ap (answering n) (same-values r))

pub read-graph-report : (graph text : List ℕ) → read_report (graph_read graph text) ≡ answering (on (not (graph_fits graph)) 12) (read_values (read_graph (graph_from graph) text))
unfolding graph_read
read-graph-report graph text = go (graph_fits graph) (read_graph (graph_from graph) text)
  where
    go : (fits : Bool) (r : Reading) → read_report (elim fits [ true ↦ Ok r | false ↦ Err GraphForm ]) ≡ answering (on (not fits) 12) (read_values r)
    go true None = refl
    go true (Some f) = refl
    go false r = refusing-as 11 3 (read_values r) (three-values r)

pub read-table-report : (table text : List ℕ) → read_report (table_read table text) ≡ answering (refusal table) (read_values (read_table (table_of table) text))
unfolding table_read
read-table-report table text = refused-or-read (refusal table) (read_table (table_of table) text) (let h = refusal-small table in omega arith)
