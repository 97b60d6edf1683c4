-- What planning tells in numbers: the lowest refusal that applies, and 0; or how many classes the store gains. Assumes nothing.
use mathlib.Core.Path.{◌≡◌, refl, sym, ap, ◌∙◌}
use mathlib.Core.Bool.{Bool, true, false, cond, not}
use mathlib.Core.List.{List, [], ◌∷◌, ◌++◌}
use Prim.Native.Nat.{ℕ, ◌*◌, ◌-◌}
use native.Mathlib.Omega.{arith}
use lib.Dec.{ltb}
use lib.ListN.{length, drop, length-drop}
use Rattle.lists.specs.Report.{Report, on, lowest, answering}
use Rattle.graph_rules.specs.Graph.{Graph, graph_from, graph_fits}
use Rattle.classes.specs.Classes.{Class}
use Rattle.mask_store.specs.declared.MaskStore.{MaskStore}
use Rattle.mask_store.specs.Masks.{held_with, grown, takes}
use Rattle.plan_rules.specs.Plan.{base, needs, plan_of, plan_size}
use Rattle.std.specs.Prelude.{Ok}
use Rattle.refusals.specs.declared.Refusal.TheVariants.{GraphForm, PlanOrOffset, Store}
use Rattle.planning.specs.Plan.{PlanCall, plan_report, no_plan, plan_call}
use Rattle.planning.specs.Report.{planning_refusal, gained}

abbrev tells : PlanCall → Report
tells c = plan_report c.planning.answer

-- "three words a state"
pub three-a-state : (g : Graph) → plan_size base g ≡ 3 * length g.states
three-a-state g = omega arith

pub plan-report : (graph buffer : List ℕ) (store : MaskStore)
    → plan_report (plan_call base graph buffer store).planning.answer ≡ answering (planning_refusal graph buffer store) (length (gained graph store) ∷ [])
unfolding plan_call planning_refusal gained grown
plan-report graph buffer store =
    go (graph_fits graph) (ltb (length buffer) (plan_size base g)) (takes store (needs base g))
    ∙ ap (λ (n : ℕ). answering (lowest (on (not (graph_fits graph)) 12 ∷ on (ltb (length buffer) n) 14 ∷ on (not (takes store (needs base g))) 15 ∷ [])) (length (drop store.count all) ∷ []))
    (three-a-state g)
  where
    g : Graph
    g = graph_from graph

    all : List Class
    all = held_with store (needs base g)

    made : PlanCall
    made =
        record {
          planning = record { answer = Ok (length all - store.count); store = grown store (needs base g) };
          buffer = plan_of base g store ++ drop (plan_size base g) buffer;
        }

    go : (fits short room : Bool)
        → tells (cond (not fits) (no_plan GraphForm buffer store) (cond short (no_plan PlanOrOffset buffer store) (cond (not room) (no_plan Store buffer store) made)))
        ≡ answering (lowest (on (not fits) 12 ∷ on short 14 ∷ on (not room) 15 ∷ [])) (length (drop store.count all) ∷ [])
    go false short room = refl
    go true true room = refl
    go true false false = refl
    go true false true = ap (λ (n : ℕ). plan_report (Ok n)) (sym (length-drop store.count all))
