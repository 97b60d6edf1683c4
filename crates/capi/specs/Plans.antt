-- Planning, a run and a scan on a mask store in a caller's block. A block of another length than 2,048 is no store, and gets 15: after 12, and after
-- 14 for a plan that is too short or a scan offset past the text, as a store that 15 refuses does. Definitions only.
use Rattle.std.specs.Prelude.{cond, not, List, ℕ, ltb, length, Result, Err}
use Rattle.graph_rules.specs.Graph.{graph_from, graph_fits}
use Rattle.graph_rules.specs.Read.{Reading}
use Rattle.refusals.specs.declared.Refusal.{Refusal}
use Rattle.refusals.specs.declared.Refusal.TheVariants.{GraphForm, PlanOrOffset, Store}
use Rattle.mask_store.specs.Masks.{store_of}
use Rattle.plan_rules.specs.Plan.{base, plan_size}
use Rattle.scans.specs.declared.scan.Scan.{Scan}
use Rattle.scans.specs.List.{ScanList, no_list}
use Rattle.planning.specs.Plan.{PlanCall, no_plan, plan_call}
use Rattle.scans.specs.Scan.{past}
use Rattle.plans.specs.Run.{run_call, planned_list}
use Rattle.capi.specs.Stores.{is_store}

-- of well-formed graph words (refusal 12)
abbrev pub short_or_15 : List ℕ → List ℕ → Refusal
short_or_15 graph plan = cond (ltb (length plan) (plan_size base (graph_from graph))) PlanOrOffset Store

-- graph words and plan words, beside a block that is no store
unfoldable pub no_store : List ℕ → List ℕ → Refusal
no_store graph plan = cond (not (graph_fits graph)) GraphForm (short_or_15 graph plan)

-- the same, and a text and a scan
unfoldable pub no_store_scan : List ℕ → List ℕ → List ℕ → Scan → Refusal
no_store_scan graph plan text scan = cond (not (graph_fits graph)) GraphForm (cond (past text scan.place) PlanOrOffset (short_or_15 graph plan))

-- ---- the calls: graph words, plan words, the block, its count

-- what planning leaves; its store is the block and the count after the call
unfoldable pub plan_in : List ℕ → List ℕ → List ℕ → ℕ → PlanCall
plan_in graph plan tables count =
    cond (is_store tables) (plan_call base graph plan (store_of tables count)) (no_plan (no_store graph plan) plan (store_of tables count))

unfoldable pub run_in : List ℕ → List ℕ → List ℕ → ℕ → List ℕ → Result Reading Refusal
run_in graph plan tables count text = cond (is_store tables) (run_call base graph plan (store_of tables count) text) (Err (no_store graph plan))

unfoldable pub list_in : List ℕ → List ℕ → List ℕ → ℕ → List ℕ → Scan → List ℕ → ScanList
list_in graph plan tables count text scan buffer =
    cond (is_store tables)
    (planned_list base graph plan (store_of tables count) text scan buffer)
    (no_list (no_store_scan graph plan text scan) scan buffer)
