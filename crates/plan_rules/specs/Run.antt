-- The planned run of a text (docs/RULES.md, "Planned run"), and which plan words it takes. Definitions only.
use Rattle.std.specs.Prelude.{Bool, true, false, ◌&&◌, ◌||◌, List, [], ◌∷◌, ℕ, zero, suc, ◌+◌, eqb, leb, ltb, length, get_or, take, drop, Option, Some, None}
use Rattle.lists.specs.Lists.{all_l, pieces, eq_list}
use Rattle.graph_rules.specs.Graph.{State, Graph, state_of, to, accept_of, early_of}
use Rattle.graph_rules.specs.Read.{Reading, mark, late, onward}
use Rattle.classes.specs.Classes.{comparisons, some_holds}
use Rattle.mask_store.specs.declared.MaskStore.{MaskStore}
use Rattle.mask_store.specs.Masks.{mask_has}
use Rattle.edges.specs.Edges.{class_to, targets}
use Rattle.plan_rules.specs.Plan.{Settings, table_word, plan_of, row_size, plan_size}

-- ---- a state's plan words: the self word, then the edge words

abbrev pub self_of : List ℕ → ℕ
self_of row = get_or row 0 0

abbrev pub says_table : List ℕ → Bool
says_table row = eqb (get_or row 1 0) table_word

-- "In a state with a self mask, k grows while byte k is there and that mask has its bit"
abbrev pub self_takes : List ℕ → ℕ → ℕ → Bool
self_takes tables zero b = false
self_takes tables (suc i) b = mask_has tables i b

-- "the edge whose mask has its bit or whose comparisons hold". Of the edge to u, w is the plan's word.
abbrev pub edge_takes : List ℕ → State → ℕ → ℕ → ℕ → Bool
edge_takes tables st u zero b = false
edge_takes tables st u (suc zero) b = some_holds (comparisons (class_to st u)) b
edge_takes tables st u (suc (suc i)) b = mask_has tables i b

abbrev pub along : List ℕ → State → List ℕ → List ℕ → ℕ → Option ℕ
along tables st [] ws b = None
along tables st (u ∷ ts) [] b = None
along tables st (u ∷ ts) (w ∷ ws) b = elim (edge_takes tables st u w b) [ true ↦ Some u | false ↦ along tables st ts ws b ]

-- "Byte k is led on by the row's targets if the plan says table; else along the edge .."
unfoldable pub led_by : Graph → List ℕ → List ℕ → ℕ → ℕ → Option ℕ
led_by g row tables s b =
    elim (says_table row) [ true ↦ to g s b | false ↦ along tables (state_of g s) (targets (length g.states) (state_of g s)) (drop 1 row) b ]

-- ---- the run in state s, k bytes passed, the last record r, over the rest of the text
-- A byte that the self mask has is passed before marks are read: k grows, and the run stays where it is.

abbrev pub run_from : Graph → List (List ℕ) → List ℕ → ℕ → ℕ → Reading → List ℕ → Reading
run_from g rows tables s k r [] =
    let q = mark (early_of g s) (accept_of g s) k r in
    onward q (λ u. late (accept_of g u) (suc k) q) (to g s 256)
run_from g rows tables s k r (b ∷ text) =
    let row = get_or rows s [] in
    elim (self_takes tables (self_of row) b) [
      | true ↦ run_from g rows tables s (suc k) r text
      | false ↦
          let q = mark (early_of g s) (accept_of g s) k r in
          onward q (λ u. run_from g rows tables u (suc k) q text) (led_by g row tables s b)
    ]

-- ---- every mask that a state's plan words name is below the store's count; a table's words name none

abbrev pub edge_held : ℕ → ℕ → Bool
edge_held count w = ltb w (2 + count) || eqb w table_word

abbrev pub row_held : ℕ → List ℕ → Bool
row_held count row = leb (self_of row) count && all_l (edge_held count) (drop 1 row)

module _ (set : Settings) where
  -- the plan words, a row for each state
  unfoldable pub rows_of : Graph → List ℕ → List (List ℕ)
  rows_of g words = pieces (row_size set) (length g.states) words

  -- "starts at the root, or reads none where the graph has no states": its root has no marks and no edges then
  unfoldable pub run : Graph → List ℕ → MaskStore → List ℕ → Reading
  run g words store text = run_from g (rows_of g words) store.tables g.root 0 None text

  -- 14: "a run's plan, where 15 doesn't hold, not the one its graph and store give or naming a mask not held"
  unfoldable pub is_plan : Graph → List ℕ → MaskStore → Bool
  is_plan g words store = eq_list eqb (take (plan_size set g) words) (plan_of set g store) && all_l (row_held store.count) (rows_of g words)
