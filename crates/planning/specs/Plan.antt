-- The call that plans a graph on a mask store (docs/RULES.md, "Plan"; refusals 12, 14, 15). Definitions only.
use Rattle.std.specs.Prelude.{Result, Ok, Err, cond, not, List, [], ◌∷◌, ◌++◌, ℕ, ◌-◌, ltb, length, drop}
use Rattle.lists.specs.Report.{Report}
use Rattle.refusals.specs.declared.Refusal.{Refusal}
use Rattle.refusals.specs.declared.Refusal.TheVariants.{GraphForm, PlanOrOffset, Store}
use Rattle.refusals.specs.Refusals.{report}
use Rattle.graph_rules.specs.Graph.{graph_from, graph_fits}
use Rattle.mask_store.specs.declared.MaskStore.{MaskStore}
use Rattle.mask_store.specs.Masks.{grown, takes}
use Rattle.plan_rules.specs.Plan.{Settings, needs, plan_of, plan_size}
use Rattle.planning.specs.declared.plan.Planning.{Planning}

-- in numbers: how many classes the store gained
abbrev pub plan_report : Result ℕ Refusal → Report
plan_report = report (λ n. n ∷ []) 1

-- what planning leaves: its answer, the store, the plan buffer
pub record PlanCall : Type 0 where
  pub planning : Planning
  pub buffer : List ℕ

-- "A refusal returns its number ..; buffers, store and scan are unchanged."
abbrev pub refused_with : Refusal → MaskStore → Planning
refused_with r store = record { answer = Err r; store = store }

abbrev pub no_plan : Refusal → List ℕ → MaskStore → PlanCall
no_plan r buffer store = record { planning = refused_with r store; buffer = buffer }

-- a store that has grown, and the buffer then
abbrev pub planned : MaskStore → MaskStore → List ℕ → PlanCall
planned store after buffer = record { planning = record { answer = Ok (after.count - store.count); store = after }; buffer = buffer }

-- graph words, plan buffer, store
unfoldable pub plan_call : Settings → List ℕ → List ℕ → MaskStore → PlanCall
plan_call set graph buffer store =
    let g = graph_from graph in
    let after = grown store (needs set g) in
    cond (not (graph_fits graph)) (no_plan GraphForm buffer store)
    (cond (ltb (length buffer) (plan_size set g)) (no_plan PlanOrOffset buffer store)
    (cond (not (takes store (needs set g))) (no_plan Store buffer store)
    (planned store after (plan_of set g store ++ drop (plan_size set g) buffer))))
