-- What is worked out of a graph before texts are run by its plan: the targets of each state's first two edges, and, where its edges are tested one by
-- one, the comparisons of those that are tested by them; of which plan words a run is asked; and where an edge leads a byte. Definitions only.
use Rattle.std.specs.Prelude.{◌≡◌, true, cond, Option, Some, None, List, [], ℕ, ◌+◌, ◌*◌, ◌<◌, ◌≤◌, length, get_or, take, replicate, slice_get}
use Rattle.lists.specs.Lists.{all_l}
use Rattle.graph_rules.specs.Layout.{most_states}
use Rattle.graph_rules.specs.Graph.{State, Graph, state_of}
use Rattle.classes.specs.Classes.{Class, Comparison, comparisons}
use Rattle.classes.specs.declared.byte_class.Comparisons.{Comparisons}
use Rattle.classes.specs.ClassAnswers.{as_comparisons, listed, no_entry}
use Rattle.edges.specs.Edges.{class_to, targets}
use Rattle.plan_rules.specs.declared.Way.{Way}
use Rattle.plan_rules.specs.declared.Way.TheVariants.{BySelf, ByTests, ByMask}
use Rattle.plan_rules.specs.Plan.{base, by_table, way_to, plan_words, plan_size}
use Rattle.plan_rules.specs.Run.{edge_takes, row_held, rows_of}
use Rattle.runner.specs.declared.edge.Edge.{Edge}

-- what stands where no edge is
abbrev pub no_edge : Edge
no_edge = record { target = 0; count = 0; list = []; except = [] }

-- the comparisons that it keeps
abbrev pub tests_of : Edge → List Comparison
tests_of e = listed (take e.count e.list) e.except

-- the targets of state s, ascending
abbrev pub targets_of : Graph → ℕ → List ℕ
targets_of g s = targets (length g.states) (state_of g s)

-- where its edge j stands, in target order: as many edges a state as are tested without a table
abbrev pub edge_at : ℕ → ℕ → ℕ
edge_at s j = base.edges * s + j

-- how many edges of all states there may be
abbrev pub edges_size : ℕ
edges_size = base.edges * most_states

-- an edge that is tested by no comparisons
abbrev pub untested : ℕ → Edge
untested u = record { target = u; count = 0; list = replicate 3 no_entry; except = replicate 2 0 }

-- an edge that is tested by these: three at most, and two exceptions
abbrev pub tested : ℕ → Comparisons → Edge
tested u laid = record { target = u; count = laid.count; list = take 3 laid.list; except = take 2 laid.except }

abbrev pub by_way : Way → Class → ℕ → Edge
by_way ByTests c u = tested u (as_comparisons (comparisons c))
by_way BySelf c u = untested u
by_way ByMask c u = untested u

-- the edge from state s to its target, as it is kept: 0 is the target where there is none, and a state that is run by a table needs no comparisons
unfoldable pub edge_to : Graph → ℕ → Option ℕ → Edge
edge_to g s None = untested 0
edge_to g s (Some u) =
    cond (by_table base (targets_of g s)) (untested u) (by_way (way_to base (state_of g s) s u) (class_to (state_of g s) u) u)

-- the edges of all states are kept
abbrev pub Prepared : Graph → List Edge → Type 0
Prepared g edges = (s j : ℕ) → s < length g.states → j < base.edges → get_or edges (edge_at s j) no_edge ≡ edge_to g s (slice_get (targets_of g s) j)

-- the words begin with the plan that some classes give, at most 64, and name none but these
pub record PlanOn (g : Graph) (words : List ℕ) : Type 0 where
  pub all : List Class
  pub few : length all ≤ 64
  pub words_are : take (plan_size base g) words ≡ plan_words base all g
  pub held : all_l (row_held 64) (rows_of base g words) ≡ true

-- where an edge leads a byte, if there is one and the test that its word w names takes it
abbrev pub led_along : List ℕ → State → Option ℕ → ℕ → ℕ → Option ℕ
led_along tables st None w b = None
led_along tables st (Some u) w b = cond (edge_takes tables st u w b) (Some u) None
