-- The word of an edge, or of none. Definitions only.
use Rattle.std.specs.Prelude.{Option, Some, None, List, ℕ}
use Rattle.graph_rules.specs.Graph.{State}
use Rattle.classes.specs.Classes.{Class}
use Rattle.edges.specs.Edges.{class_to}
use Rattle.plan_rules.specs.Plan.{base, way_to, way_word}

-- of state s where no table is used, in a plan in which the classes `all` have their numbers
abbrev pub target_word : List Class → State → ℕ → Option ℕ → ℕ
target_word all st s None = 0
target_word all st s (Some u) = way_word all (way_to base st s u) (class_to st u)
