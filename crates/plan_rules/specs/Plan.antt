-- The plan of a graph on a mask store (docs/RULES.md, "Plan"). Definitions only.
use Rattle.std.specs.Prelude.{Bool, true, false, cond, ◌&&◌, ℕ, zero, suc, Option, Some, None, ◌+◌, ◌*◌, ◌-◌, ◌≤◌, eqb, ltb, length, replicate}
use mathlib.Core.List.{List, [], ◌∷◌, ◌++◌, map, flat_map}
use Rattle.lists.specs.Lists.{below, any_l, all_l}
use Rattle.graph_rules.specs.Graph.{State, Graph, state_of}
use Rattle.classes.specs.Classes.{Class, cost}
use Rattle.mask_store.specs.declared.MaskStore.{MaskStore}
use Rattle.mask_store.specs.Masks.{class_at, same_class, number_of, held_with}
use Rattle.edges.specs.Edges.{class_to, targets}
use Rattle.plan_rules.specs.declared.Way.{Way}
use Rattle.plan_rules.specs.declared.Way.TheVariants.{BySelf, ByTests, ByMask}
use Rattle.plan_rules.specs.declared.EdgeWord.{EdgeWord}
use Rattle.plan_rules.specs.declared.EdgeWord.TheVariants.{Nothing, Tests, Mask, Table}

-- "Above 2 byte edges, self included, a 256-entry table is used"; "a mask if its cost is above 2"; "three words a state": one and two for edges
pub record Settings : Type 0 where
  pub edges : ℕ
  pub cost : ℕ
  pub words : ℕ

abbrev pub base : Settings
base = record { edges = 2; cost = 2; words = 2 }

-- settings under which a plan can be read: a word for each edge where no table is used, and a word that tells a table
pub record Sane (set : Settings) : Type 0 where
  pub enough : set.edges ≤ set.words
  pub some_word : 1 ≤ set.words

-- ---- how a byte is tested for an edge: `Way`

-- the classes that need a mask for it
abbrev pub masked : Way → Class → List Class
masked BySelf c = []
masked ByTests c = []
masked ByMask c = c ∷ []

-- "self edge first, always a mask"; ts are the targets of the state's byte edges
unfoldable pub self_needs : State → ℕ → List ℕ → List Class
self_needs st s ts = cond (any_l (eqb s) ts) (class_to st s ∷ []) []

-- the plan's words, where the classes `all` have their numbers: "self mask + 1 or 0"
unfoldable pub self_word : List Class → State → ℕ → List ℕ → ℕ
self_word all st s ts = cond (any_l (eqb s) ts) (suc (number_of all (class_to st s))) 0

-- the edge words of a table
abbrev pub table_word : ℕ
table_word = 65535

-- "0 (absent or self), 1 (comparisons), 2 + mask number"
abbrev pub way_word : List Class → Way → Class → ℕ
way_word all BySelf c = 0
way_word all ByTests c = 1
way_word all ByMask c = suc (suc (number_of all c))

-- ---- what the words say

-- the self edge's: its mask, if it has one
abbrev pub own_said : ℕ → Option ℕ
own_said zero = None
own_said (suc i) = Some i

abbrev pub own_code : Option ℕ → ℕ
own_code None = 0
own_code (Some i) = suc i

-- another edge's
abbrev pub test_said : ℕ → EdgeWord
test_said zero = Nothing
test_said (suc zero) = Tests
test_said (suc (suc i)) = Mask i

unfoldable pub edge_said : ℕ → EdgeWord
edge_said w = elim (eqb w table_word) [ true ↦ Table | false ↦ test_said w ]

abbrev pub edge_code : EdgeWord → ℕ
edge_code Nothing = 0
edge_code Tests = 1
edge_code (Mask i) = suc (suc i)
edge_code Table = table_word

module _ (set : Settings) where
  -- ---- the choices

  unfoldable pub by_table : List ℕ → Bool
  by_table ts = ltb set.edges (length ts)

  -- the edge from s to u, where no table is used
  unfoldable pub way_to : State → ℕ → ℕ → Way
  way_to st s u = cond (eqb u s) BySelf (cond (ltb set.cost (cost (class_to st u))) ByMask ByTests)

  -- ---- the classes that a graph needs masks for

  -- "each other edge, by target"
  unfoldable pub edge_needs : State → ℕ → List ℕ → List Class
  edge_needs st s ts = cond (by_table ts) [] (flat_map (λ u. masked (way_to st s u) (class_to st u)) ts)

  unfoldable pub state_needs : Graph → ℕ → List Class
  state_needs g s =
      let st = state_of g s in
      let ts = targets (length g.states) st in
      self_needs st s ts ++ edge_needs st s ts

  -- "States go ascending"
  unfoldable pub needs : Graph → List Class
  needs g = flat_map (state_needs g) (below (length g.states))

  -- ---- the plan's words

  -- "for each edge in target order", "or 65,535 in both for a table"
  unfoldable pub edge_words : List Class → State → ℕ → List ℕ → List ℕ
  edge_words all st s ts =
      cond (by_table ts)
      (replicate set.words table_word)
      (map (λ u. way_word all (way_to st s u) (class_to st u)) ts ++ replicate (set.words - length ts) 0)

  unfoldable pub plan_row : List Class → Graph → ℕ → List ℕ
  plan_row all g s =
      let st = state_of g s in
      let ts = targets (length g.states) st in
      self_word all st s ts ∷ edge_words all st s ts

  unfoldable pub plan_words : List Class → Graph → List ℕ
  plan_words all g = flat_map (plan_row all g) (below (length g.states))

  -- the plan of a graph on a store
  unfoldable pub plan_of : Graph → MaskStore → List ℕ
  plan_of g store = plan_words (held_with store (needs g)) g

  -- "holds this plan's classes under its numbers": of the plan made on `store`, another store has each class as the mask that the plan names
  unfoldable pub holds_plan : Graph → MaskStore → MaskStore → Bool
  holds_plan g store other =
      all_l (λ c. let i = number_of (held_with store (needs g)) c in ltb i other.count && same_class (class_at other.tables i) c) (needs g)

  -- ---- where they stand

  -- the words of a state, and the place of the first, which is the self edge's
  abbrev pub row_size : ℕ
  row_size = suc set.words

  abbrev pub own_place : ℕ → ℕ
  own_place s = row_size * s

  -- of its edge j in target order
  abbrev pub edge_place : ℕ → ℕ → ℕ
  edge_place s j = own_place s + suc j

  -- the words that a plan needs
  abbrev pub plan_size : Graph → ℕ
  plan_size g = length g.states * row_size
