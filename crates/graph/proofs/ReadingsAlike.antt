-- Of every clean table and every text: what `read_table` answers of the table, `read_graph` answers of the words that the build returned. The same of
-- a table that is clean but for ties: a state whose leaves tie has no leaf in either reading. Assumes nothing.
use Rattle.std.specs.Prelude.{Result, Ok}
use Rattle.refusals.specs.declared.Refusal.{Refusal}
use mathlib.Core.Path.{◌≡◌, sym, ap, ◌∙◌}
use mathlib.Core.Bool.{true}
use mathlib.Core.List.{List, []}
use Prim.Native.Nat.{ℕ}
use Rattle.graph_rules.specs.Table.{table_of, refusal}
use Rattle.graph_rules.specs.Graph.{graph_fits}
use Rattle.graph_rules.specs.Build.{empty_leaves}
use Rattle.graph_rules.specs.Read.{Bytes, Orderly, Clean, Reading}
use Rattle.graph_rules.proofs.Promises.{built-taken, clean-no-empty, words-alike}
use Rattle.graph.specs.declared.new.Counts.{Counts}
use Rattle.readings.specs.Answers.{read_report, table_read, graph_read}
use Rattle.graph.specs.New.{new_of}
use Rattle.readings.proofs.Answering.{graph-answered, table-answered}
use Rattle.graph.proofs.Outcomes.{answered, words-first}

module _ (table graph errors : List ℕ) (c : Counts) (made : (new_of table graph errors).answer ≡ Ok c) where
  legal : refusal table ≡ 0
  legal = (answered table graph errors c made).legal

  -- the words that the build returned are well-formed
  pub returned-taken : graph_fits (new_of table graph errors).graph ≡ true
  returned-taken = ap graph_fits (words-first table graph errors c made) ∙ built-taken table legal _

  pub tied-alike : Orderly (table_of table) → empty_leaves (table_of table) ≡ [] → (text : List ℕ) → Bytes text
      → table_read table text ≡ graph_read (new_of table graph errors).graph text
  tied-alike orderly no-empty text bytes =
      table-answered table text legal
      ∙ ap {B = Result Reading Refusal} Ok (words-alike table legal orderly no-empty _ text bytes)
      ∙ sym (graph-answered _ text (built-taken table legal _))
      ∙ ap (λ (w : List ℕ). graph_read w text) (sym (words-first table graph errors c made))

  pub readings-alike : Clean (table_of table) → (text : List ℕ) → Bytes text → table_read table text ≡ graph_read (new_of table graph errors).graph text
  readings-alike clean text bytes = tied-alike clean.orderly (clean-no-empty (table_of table) clean) text bytes

  -- and so in numbers
  pub told-alike : Clean (table_of table) → (text : List ℕ) → Bytes text
      → read_report (table_read table text) ≡ read_report (graph_read (new_of table graph errors).graph text)
  told-alike clean text bytes = ap read_report (readings-alike clean text bytes)
