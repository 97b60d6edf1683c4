-- Of every clean table, and of one that is clean but for ties: every state of the words that the build returned is reached from their root by byte and
-- end edges. Assumes nothing.
use Rattle.std.specs.Prelude.{Ok}
use mathlib.Core.Path.{◌≡◌, sym, ap, subst, ◌∙◌}
use mathlib.Core.List.{List, []}
use Prim.Native.Nat.{ℕ, ◌<◌}
use lib.ListN.{length}
use Rattle.graph_rules.specs.Table.{table_of}
use Rattle.graph_rules.specs.Graph.{Graph, FromRoot, graph_from}
use Rattle.graph_rules.specs.Build.{build, empty_leaves}
use Rattle.graph_rules.specs.Read.{Orderly, Clean}
use Rattle.graph_rules.proofs.Promises.{built-back, clean-no-empty, tied-reached as build-reached}
use Rattle.graph.specs.declared.new.Counts.{Counts}
use Rattle.graph.specs.New.{new_of}
use Rattle.graph.proofs.Outcomes.{answered, words-first}

module _ (table graph errors : List ℕ) (c : Counts) (made : (new_of table graph errors).answer ≡ Ok c) where
  -- read back, the words are the build's graph
  pub returned-back : graph_from (new_of table graph errors).graph ≡ (build (table_of table)).graph
  returned-back = ap graph_from (words-first table graph errors c made) ∙ built-back table (answered table graph errors c made).legal _

  pub tied-reached : Orderly (table_of table) → empty_leaves (table_of table) ≡ []
      → (i : ℕ) → i < c.states → FromRoot (graph_from (new_of table graph errors).graph) i
  tied-reached orderly no-empty i h =
      let a = answered table graph errors c made in
      let h' : i < length (build (table_of table)).graph.states = subst (λ (x : Counts). i < x.states) a.counts h in
      subst (λ (g : Graph). FromRoot g i) (sym returned-back) (build-reached table a.legal orderly no-empty i h')

  pub words-reached : Clean (table_of table) → (i : ℕ) → i < c.states → FromRoot (graph_from (new_of table graph errors).graph) i
  words-reached clean = tied-reached clean.orderly (clean-no-empty (table_of table) clean)
