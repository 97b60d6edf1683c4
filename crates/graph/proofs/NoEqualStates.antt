-- Of every table: no two states of the words that the build returned have the same marks, 256 targets and end target. The counts that are answered
-- are those of the lists. Assumes nothing.
use Rattle.std.specs.Prelude.{Ok}
use mathlib.Core.Path.{◌≡◌, sym, ap, subst, ◌∙◌}
use mathlib.Core.List.{List}
use Prim.Native.Nat.{ℕ, ◌<◌}
use lib.ListN.{length}
use Rattle.graph_rules.specs.Table.{table_of}
use Rattle.graph_rules.specs.Graph.{Graph, state_of, graph_from}
use Rattle.graph_rules.specs.Build.{build}
use Rattle.graph_rules.proofs.Promises.{no-equal-states}
use Rattle.graph.specs.declared.new.Counts.{Counts}
use Rattle.graph.specs.New.{conflicts, new_of}
use Rattle.graph.proofs.Outcomes.{answered}
use Rattle.graph.proofs.AllReached.{returned-back}

module _ (table graph errors : List ℕ) (c : Counts) (made : (new_of table graph errors).answer ≡ Ok c) where
  abbrev returned : Graph
  returned = graph_from (new_of table graph errors).graph

  pub words-differ : (i j : ℕ) → i < j → j < c.states
      → (state_of returned i).accept ≡ (state_of returned j).accept
      → (state_of returned i).early ≡ (state_of returned j).early
      → (state_of returned i).steps ≡ (state_of returned j).steps → ⊥
  words-differ i j h k =
      let a = answered table graph errors c made in
      let k' : j < length (build (table_of table)).graph.states = subst (λ (x : Counts). j < x.states) a.counts k in
      subst (λ (g : Graph). (state_of g i).accept ≡ (state_of g j).accept → (state_of g i).early ≡ (state_of g j).early → (state_of g i).steps ≡ (state_of g j).steps → ⊥)
      (sym (returned-back table graph errors c made))
      (no-equal-states (table_of table) i j h k')

  -- the number of states is that of the states that stand in the words
  pub states-counted : c.states ≡ length returned.states
  states-counted =
      ap (λ (x : Counts). x.states) (answered table graph errors c made).counts
      ∙ ap (λ (g : Graph). length g.states) (sym (returned-back table graph errors c made))

  -- the number of errors is that of the list, and the number of words that of its words
  pub errors-counted : (c.errors ≡ length (build (table_of table)).errors) × (c.words ≡ length (conflicts (build (table_of table))))
  errors-counted =
      let e = (answered table graph errors c made).counts in
      (ap (λ (x : Counts). x.errors) e, ap (λ (x : Counts). x.words) e)
