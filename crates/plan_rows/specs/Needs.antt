-- A store grown by classes where refusal 15 does not hold. Definitions only.
use Rattle.std.specs.Prelude.{Option, Some, None, Result, Ok, Err, cond, List, [], ℕ}
use Rattle.refusals.specs.declared.Refusal.{Refusal}
use Rattle.refusals.specs.declared.Refusal.TheVariants.{Store}
use Rattle.graph_rules.specs.Graph.{State}
use Rattle.classes.specs.Classes.{Class}
use Rattle.edges.specs.Edges.{class_to}
use Rattle.mask_store.specs.declared.Allowed.{Allowed}
use Rattle.mask_store.specs.declared.MaskStore.{MaskStore}
use Rattle.mask_store.specs.Masks.{takes, grown}
use Rattle.plan_rules.specs.Plan.{base, way_to, masked}

-- what is answered of a store that is allowed, of the store
abbrev pub stored : Result Allowed Refusal → Result MaskStore Refusal
stored (Ok s) = Ok s.store
stored (Err r) = Err r

-- the same of a call that grows a store which it is lent
abbrev pub after : {A : Type 0} → Result A Refusal → Allowed → Result MaskStore Refusal
after (Ok a) s = Ok s.store
after (Err r) s = Err r

unfoldable pub grown_by : MaskStore → List Class → Result MaskStore Refusal
grown_by store cs = cond (takes store cs) (Ok (grown store cs)) (Err Store)

-- the classes that an edge needs a mask for where no table is used; none where there is no edge
abbrev pub edge_need : State → ℕ → Option ℕ → List Class
edge_need st s None = []
edge_need st s (Some u) = masked (way_to base st s u) (class_to st u)
