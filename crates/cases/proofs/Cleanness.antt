-- Tables that are clean and tables that are not, in one computed table; and a built graph with a state that is not reached from its root: `FromRoot`
-- does not hold of every state. Assumes nothing.
use mathlib.Core.Path.{◌≡◌, refl, sym, ap, ◌∙◌}
use mathlib.Core.Bool.{Bool, true, false, false≢true}
use mathlib.Core.List.{List, [], ◌∷◌, map}
use native.Mathlib.Omega.{arith}
use lib.ListN.{length, get_or}
use Rattle.graph_rules.specs.Table.{table_of}
use Rattle.graph_rules.specs.Graph.{FromRoot, reached_states}
use Rattle.graph_rules.specs.Build.{build}
use Rattle.graph_rules.proofs.FromRoot.{computed-reached, reached-computed}
use Rattle.cases.specs.Answers.{graph_of}
use Rattle.cases.specs.Table.{k1, k4}
use Rattle.cases.specs.Cleanness.{clean_numbers, zero_back, zero_leaf, cleanness}

pub all-verdicts : (length cleanness ≡ 15) × (map (λ c. c.got) cleanness ≡ map (λ c. c.wanted) cleanness)
unfolding cleanness k1 k4 zero_back zero_leaf clean_numbers
all-verdicts = (refl, refl)

-- ---- the graph of the table in which state 0 goes by `a` to state 1, the start, and all else to 0. Steps to 0 are dropped, so the root, 1, has no edge.

zero-back-states : length (build (table_of zero_back)).graph.states ≡ 2
unfolding zero_back graph_of
zero-back-states = refl

pub zero-back-root : (build (table_of zero_back)).graph.root ≡ 1
unfolding zero_back graph_of
zero-back-root = refl

zero-back-reached : reached_states (build (table_of zero_back)).graph ≡ false ∷ true ∷ []
unfolding zero_back graph_of reached_states
zero-back-reached = refl

pub zero-not-reached : FromRoot (build (table_of zero_back)).graph 0 → ⊥
zero-not-reached r =
    let g = (build (table_of zero_back)).graph in
    let n = zero-back-states in
    false≢true (ap (λ (s : List Bool). get_or s 0 false) (sym zero-back-reached) ∙ reached-computed g 0 (omega arith) r)

pub root-reached : FromRoot (build (table_of zero_back)).graph 1
root-reached = computed-reached (build (table_of zero_back)).graph 1 (ap (λ (s : List Bool). get_or s 1 false) zero-back-reached)
