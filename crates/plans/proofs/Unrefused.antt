-- What planning, a planned run and a planned scan answer where they are not refused. Assumes nothing.
use mathlib.Core.Path.{◌≡◌, refl, sym, ap, ◌∙◌}
use mathlib.Core.Bool.{true, false, false≢true}
use mathlib.Core.List.{List, ◌++◌}
use Prim.Native.Nat.{ℕ}
use native.Mathlib.Omega.{arith}
use borrow.Author.Tests.{ltb-true}
use lib.Dec.{ltb}
use lib.ListN.{length, drop}
use Rattle.lists.proofs.Bools.{Is, yes-is, no-is, is}
use Rattle.graph_rules.specs.Graph.{Graph, graph_from, graph_fits}
use Rattle.graph_rules.specs.Read.{Bytes, Reading, read_graph}
use Rattle.std.specs.Prelude.{Result, Ok, Err}
use Prim.Native.Nat.{zero, suc}
use Rattle.refusals.specs.declared.Refusal.{Refusal}
use Rattle.refusals.specs.declared.Refusal.TheVariants.{GraphForm, PlanOrOffset, Store}
use Rattle.refusals.specs.Refusals.{numbered, answered}
use Rattle.readings.specs.Answers.{graph_read}
use Rattle.readings.proofs.Answering.{graph-answered}
use Rattle.mask_store.specs.declared.MaskStore.{MaskStore}
use Rattle.mask_store.specs.Masks.{takes, grown}
use Rattle.plan_rules.specs.Plan.{Settings, Sane, needs, plan_of, plan_size}
use Rattle.plan_rules.specs.Run.{run, is_plan}
use Rattle.plan_rules.proofs.RunIsWalk.{plan-runs}
use Rattle.scans.specs.declared.scan.Place.{Place}
use Rattle.scans.specs.declared.scan.Place.TheVariants.{Reading as ReadingAt, Ended as HasEnded}
use Rattle.scans.specs.declared.scan.Scan.{Scan}
use Rattle.planning.specs.Plan.{plan_call}
use Rattle.scans.specs.Scan.{past}
use Rattle.plans.specs.Run.{plan_refusal, run_refusal, run_call, planned_refusal, planned_list}
use Rattle.scans.specs.List.{no_list, scan_list}
use Rattle.scans.proofs.ListAnswers.{list-past}
use Rattle.plans.proofs.Running.{targets-closed, root-state}

-- ---- planning

module _ (set : Settings) (graph buffer : List ℕ) (store : MaskStore) where
  abbrev g : Graph
  g = graph_from graph

  -- what it leaves
  pub record PlanLeft : Type 0 where
    pub legal : graph_fits graph ≡ true
    pub room : takes store (needs set g) ≡ true
    pub buffer-is : (plan_call set graph buffer store).buffer ≡ plan_of set g store ++ drop (plan_size set g) buffer
    pub store_is : (plan_call set graph buffer store).planning.store ≡ grown store (needs set g)

  pub plan-left : (added : ℕ) → (plan_call set graph buffer store).planning.answer ≡ Ok added → PlanLeft
  unfolding plan_call
  plan-left added e = go (is (graph_fits graph)) (is (ltb (length buffer) (plan_size set g))) (is (takes store (needs set g)))
    where
      never : (r : Refusal) → ◌≡◌ {A = Result ℕ Refusal} (Err r) (Ok added) → ⊥
      never r q = cc

      go : Is (graph_fits graph) → Is (ltb (length buffer) (plan_size set g)) → Is (takes store (needs set g)) → PlanLeft
      go (no-is a) b c = absurd (never GraphForm (rw a at e))
      go (yes-is a) (yes-is b) c = absurd (never PlanOrOffset (rw (a, b) at e))
      go (yes-is a) (no-is b) (no-is c) = absurd (never Store (rw (a, b, c) at e))
      go (yes-is a) (no-is b) (yes-is c) = record { legal = a; room = c; buffer-is = rw (a, b, c); store_is = rw (a, b, c) }

-- ---- a run

pub reading-answers : (r : Reading) (x : Refusal) → ◌≡◌ {A = Result Reading Refusal} (Ok r) (Err x) → ⊥
reading-answers r x e = cc

module _ (set : Settings) (graph words : List ℕ) (store : MaskStore) where
  abbrev from : Graph
  from = graph_from graph

  -- the conditions under which a run is not refused
  pub record Taken : Type 0 where
    pub legal : graph_fits graph ≡ true
    pub long : ltb (length words) (plan_size set from) ≡ false
    pub room : takes store (needs set from) ≡ true
    pub planned : is_plan set from words store ≡ true

  pub taken_none : Taken → plan_refusal set from words store ≡ 0
  unfolding plan_refusal
  taken_none t = rw (t.long, t.room, t.planned)

  pub none-taken : run_refusal set graph words store ≡ 0 → Taken
  unfolding run_refusal plan_refusal
  none-taken e =
      go (is (graph_fits graph)) (is (ltb (length words) (plan_size set from))) (is (takes store (needs set from))) (is (is_plan set from words store))
    where
      go : Is (graph_fits graph) → Is (ltb (length words) (plan_size set from)) → Is (takes store (needs set from)) → Is (is_plan set from words store) → Taken
      go (no-is a) b c d = let z : ◌≡◌ {A = ℕ} 12 0 = rw a at e in absurd (omega arith)
      go (yes-is a) (yes-is b) c d = let z : ◌≡◌ {A = ℕ} 14 0 = rw (a, b) at e in absurd (omega arith)
      go (yes-is a) (no-is b) (no-is c) d = let z : ◌≡◌ {A = ℕ} 15 0 = rw (a, b, c) at e in absurd (omega arith)
      go (yes-is a) (no-is b) (yes-is c) (no-is d) = let z : ◌≡◌ {A = ℕ} 14 0 = rw (a, b, c, d) at e in absurd (omega arith)
      go (yes-is a) (no-is b) (yes-is c) (yes-is d) = record { legal = a; long = b; room = c; planned = d }

  -- and then it answers the graph's reading
  pub taken-reads : Sane set → Taken → (text : List ℕ) → Bytes text → run_call set graph words store text ≡ Ok (read_graph from text)
  unfolding run_call run_refusal
  taken-reads sane t text bytes =
      let r : run_call set graph words store text ≡ Ok (run set from words store text) = rw (t.legal, taken_none t) in
      r ∙ ap (λ (x : Reading). Ok x) (plan-runs set sane from store (targets-closed graph t.legal) (root-state graph t.legal) t.room words t.planned text bytes)

  -- of any graph words, plan words and store: a run that is not refused answers what `read_graph` answers
  pub run-is-walk : Sane set → (text : List ℕ) → Bytes text → ((r : Refusal) → run_call set graph words store text ≡ Err r → ⊥)
      → run_call set graph words store text ≡ graph_read graph text
  unfolding run_call
  run-is-walk sane text bytes answers = go (run_refusal set graph words store) refl
    where
      go : (n : ℕ) → run_refusal set graph words store ≡ n → run_call set graph words store text ≡ graph_read graph text
      go zero q =
          let t : Taken = none-taken q in
          taken-reads sane t text bytes ∙ sym (graph-answered graph text t.legal)
      go (suc n) q = absurd (answers (numbered (suc n)) (ap (λ (m : ℕ). answered m (run set from words store text)) q))

  -- ---- a scan: what no plan, graph or store refuses is listed as `scan_list` lists it

  refusal-past : Taken → (text : List ℕ) (scan : Scan) → past text scan.place ≡ true → planned_refusal set graph words store text scan ≡ 14
  unfolding planned_refusal
  refusal-past t text scan q = rw (t.legal, q)

  refusal-none : Taken → (text : List ℕ) (scan : Scan) → past text scan.place ≡ false → planned_refusal set graph words store text scan ≡ 0
  unfolding planned_refusal
  refusal-none t text scan q = rw (t.legal, q, taken_none t)

  pub planned-list : Taken → (text : List ℕ) (scan : Scan) (buffer : List ℕ) → planned_list set graph words store text scan buffer ≡ scan_list graph text scan buffer
  unfolding planned_list
  planned-list t text scan buffer = go (is (past text scan.place))
    where
      go : Is (past text scan.place) → planned_list set graph words store text scan buffer ≡ scan_list graph text scan buffer
      go (no-is q) = rw (refusal-none t text scan q, planned_list)
      go (yes-is q) =
          let r = refusal-past t text scan q in
          let e : planned_list set graph words store text scan buffer ≡ no_list PlanOrOffset scan buffer = rw (r, planned_list) (ap (λ (n : ℕ). no_list (numbered n) scan buffer) r) in
          e ∙ sym (at scan.place refl q)
        where
          at : (p : Place) → scan.place ≡ p → past text p ≡ true → scan_list graph text scan buffer ≡ no_list PlanOrOffset scan buffer
          at (ReadingAt o) e q = list-past graph text scan.place buffer t.legal o e (ltb-true _ _ q)
          at HasEnded e q = absurd (false≢true q)
