-- Which refusal planning tells, and the classes that it counts otherwise, at the calls' settings. Definitions only.
use Rattle.std.specs.Prelude.{not, List, [], ◌∷◌, ℕ, ◌*◌, ltb, length, drop}
use Rattle.lists.specs.Report.{on, lowest}
use Rattle.graph_rules.specs.Graph.{graph_from, graph_fits}
use Rattle.classes.specs.Classes.{Class}
use Rattle.mask_store.specs.declared.MaskStore.{MaskStore}
use Rattle.mask_store.specs.Masks.{held_with, takes}
use Rattle.plan_rules.specs.Plan.{base, needs}

-- graph words, plan buffer, store: 12; 14, "plan below 3 words a state"; 15, a store that does not take the classes that the graph needs
unfoldable pub planning_refusal : List ℕ → List ℕ → MaskStore → ℕ
planning_refusal graph buffer store =
    let g = graph_from graph in
    lowest
    (on (not (graph_fits graph)) 12
    ∷ on (ltb (length buffer) (3 * length g.states)) 14
    ∷ on (not (takes store (needs base g))) 15
    ∷ [])

-- the classes that the store gains: of those that it then holds, the ones after those that it held
unfoldable pub gained : List ℕ → MaskStore → List Class
gained graph store = drop store.count (held_with store (needs base (graph_from graph)))
