-- What `Sane` asks for is needed: with a word too few for the edges, or with no word to tell a table by, the run by a graph's own plan misses what the
-- walk reads. Assumes nothing.
use Rattle.std.specs.Prelude.{Some, None}
use mathlib.Core.Path.{◌≡◌, refl}
use mathlib.Core.List.{[], ◌∷◌, ◌++◌, flat_map}
use lib.ListN.{replicate}
use Rattle.classes.specs.Classes.{ranges, comparisons, cost}
use Rattle.graph_rules.specs.Layout.{step_count}
use Rattle.graph_rules.specs.Graph.{Graph, state_of, to, accept_of, early_of}
use Rattle.graph_rules.specs.Read.{Reading, graph_walker, read_graph}
use Rattle.mask_store.specs.declared.MaskStore.{MaskStore}
use Rattle.mask_store.specs.Masks.{held, held_with, mask_has}
use Rattle.edges.specs.Edges.{class_to, leads_to, targets}
use Rattle.plan_rules.specs.Plan.{Settings, base, by_table, way_to, self_needs, edge_needs, state_needs, needs, self_word, edge_words, plan_row, plan_words, plan_of}
use Rattle.plan_rules.specs.Run.{led_by, rows_of, run}

-- the root goes by `a` and by `b` to two states, which have early leaves
unfoldable pub forked : Graph
forked =
    record {
      states = record { steps = replicate 97 None ++ Some 1 ∷ Some 2 ∷ replicate 158 None; accept = None; early = None }
          ∷ record { steps = replicate step_count None; accept = None; early = Some 0 }
          ∷ record { steps = replicate step_count None; accept = None; early = Some 1 }
          ∷ [];
      root = 0;
    }

unfoldable pub emptied : MaskStore
emptied = record { tables = []; count = 0 }

-- `b`, by the walk and by the plan that settings give
unfoldable pub walked : Reading
unfolding state_of to accept_of early_of graph_walker read_graph forked
walked = read_graph forked (98 ∷ [])

unfoldable pub planned : Settings → Reading
unfolding walked flat_map ranges comparisons cost held held_with mask_has class_to leads_to targets by_table way_to self_needs edge_needs state_needs needs self_word edge_words plan_row plan_words plan_of led_by rows_of run emptied
planned set = run set forked (plan_of set forked emptied) emptied (98 ∷ [])

pub walk-reads : walked ≡ Some (record { leaf = 1; end = 1 })
unfolding walked
walk-reads = refl

pub base-reads : planned base ≡ walked
unfolding planned
base-reads = refl

-- two edges, and one word for them
pub word-too-few : planned (record { edges = 2; cost = 2; words = 1 }) ≡ None
unfolding planned
word-too-few = refl

-- all edges by a table, and no word to say so
pub no_word : planned (record { edges = 0; cost = 2; words = 0 }) ≡ None
unfolding planned
no_word = refl
