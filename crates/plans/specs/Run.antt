-- The call that runs a text by a plan, and the one that scans a text by it (docs/RULES.md, "Planned run"; refusals 12, 14, 15, 16). Definitions only.
use Rattle.std.specs.Prelude.{◌≡◌, true, false, cond, not, List, ℕ, eqb, ltb, length, None, Result}
use Rattle.graph_rules.specs.Graph.{Graph, graph_from, graph_fits}
use Rattle.graph_rules.specs.Read.{Bytes, Reading, read_graph}
use Rattle.refusals.specs.declared.Refusal.{Refusal}
use Rattle.refusals.specs.Refusals.{numbered, answered}
use Rattle.mask_store.specs.declared.MaskStore.{MaskStore}
use Rattle.mask_store.specs.Masks.{takes}
use Rattle.plan_rules.specs.Plan.{Settings, base, needs, plan_size}
use Rattle.plan_rules.specs.Run.{run_from, rows_of, run, is_plan}
use Rattle.scans.specs.declared.scan.Scan.{Scan}
use Rattle.scans.specs.Scan.{past}
use Rattle.scans.specs.List.{ScanList, no_list, scan_list}

-- of well-formed graph words (refusal 12): 14, 15 and 14 again, or 0. "plan below 3 words a state"; "a run's plan, where 15 doesn't hold, not the one its graph
-- and store give or naming a mask not held"
unfoldable pub plan_refusal : Settings → Graph → List ℕ → MaskStore → ℕ
plan_refusal set g words store =
    cond (ltb (length words) (plan_size set g)) 14
    (cond (not (takes store (needs set g))) 15
    (cond (not (is_plan set g words store)) 14 0))

-- graph words, plan words, store
unfoldable pub run_refusal : Settings → List ℕ → List ℕ → MaskStore → ℕ
run_refusal set graph words store = cond (not (graph_fits graph)) 12 (plan_refusal set (graph_from graph) words store)

-- ---- `run`: graph words, plan words, store, text

unfoldable pub run_call : Settings → List ℕ → List ℕ → MaskStore → List ℕ → Result Reading Refusal
run_call set graph words store text = answered (run_refusal set graph words store) (run set (graph_from graph) words store text)

-- ---- `scan_planned`: what `scan_list` answers. "Lowest number first": an offset past the text, a 14, comes before 15, and an ended scan, 16, last.

unfoldable pub planned_refusal : Settings → List ℕ → List ℕ → MaskStore → List ℕ → Scan → ℕ
planned_refusal set graph words store text scan =
    cond (not (graph_fits graph)) 12 (cond (past text scan.place) 14 (plan_refusal set (graph_from graph) words store))

unfoldable pub planned_list : Settings → List ℕ → List ℕ → MaskStore → List ℕ → Scan → List ℕ → ScanList
planned_list set graph words store text scan buffer =
    elim (eqb (planned_refusal set graph words store text scan) 0) [
      | true ↦ scan_list graph text scan buffer
      | false ↦ no_list (numbered (planned_refusal set graph words store text scan)) scan buffer
    ]

-- plan words by which every text is run as it is walked, on these tables
abbrev pub RunsAlike : Graph → List ℕ → List ℕ → Type 0
RunsAlike g words tables = (text : List ℕ) → Bytes text → run_from g (rows_of base g words) tables g.root 0 None text ≡ read_graph g text
