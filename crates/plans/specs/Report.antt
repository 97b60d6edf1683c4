-- Which refusal the planned run and the planned scan tell, at the calls' settings. Definitions only.
use Rattle.std.specs.Prelude.{not, List, [], ◌∷◌, ◌++◌, ℕ, ◌*◌, ltb, length}
use Rattle.lists.specs.Report.{on, lowest}
use Rattle.graph_rules.specs.Graph.{graph_from, graph_fits}
use Rattle.mask_store.specs.declared.MaskStore.{MaskStore}
use Rattle.mask_store.specs.Masks.{takes}
use Rattle.plan_rules.specs.Plan.{base, needs}
use Rattle.plan_rules.specs.Run.{is_plan}
use Rattle.scans.specs.declared.scan.Scan.{Scan}
use Rattle.scans.specs.Scan.{past, over}

-- of a plan: 14, "plan below 3 words a state"; 15; 14, "a run's plan, where 15 doesn't hold, not the one its graph and store give or naming a mask not held"
abbrev pub plan_numbers : List ℕ → List ℕ → MaskStore → List ℕ
plan_numbers graph words store =
    let g = graph_from graph in
    on (ltb (length words) (3 * length g.states)) 14
    ∷ on (not (takes store (needs base g))) 15
    ∷ on (not (is_plan base g words store)) 14
    ∷ []

-- graph words, plan words, store: 12, and those of the plan
unfoldable pub run_number : List ℕ → List ℕ → MaskStore → ℕ
run_number graph words store = lowest (on (not (graph_fits graph)) 12 ∷ plan_numbers graph words store)

-- beside them a text and a scan: 14, "scan offset past the text", before 15; 16 last
unfoldable pub planned_number : List ℕ → List ℕ → MaskStore → List ℕ → Scan → ℕ
planned_number graph words store text scan =
    lowest (on (not (graph_fits graph)) 12 ∷ on (past text scan.place) 14 ∷ (plan_numbers graph words store ++ on (over scan.place) 16 ∷ []))
