-- Demand 3. Of every clean table and every text: what `read_table` answers of the table, `read_graph` answers of the words that the build returned, and
-- `run` answers of those words and of the plan that planning returned for them, on every store that 15 allows and that holds this plan's classes
-- under its numbers; and that run is not refused. The same of a table that is clean but for ties. Assumes nothing.
use mathlib.Core.Path.{◌≡◌, sym, ap, ◌∙◌}
use mathlib.Core.Bool.{true}
use mathlib.Core.List.{List, [], ◌++◌}
use Prim.Native.Nat.{ℕ}
use borrow.Author.Tests.{le-ltb}
use lib.ListN.{length, drop}
use Rattle.graph_rules.specs.Table.{table_of}
use Rattle.graph_rules.specs.Graph.{Graph, graph_from}
use Rattle.graph_rules.specs.Build.{empty_leaves}
use Rattle.graph_rules.specs.Read.{Bytes, Orderly, Clean, read_graph}
use Rattle.graph_rules.proofs.Promises.{clean-no-empty}
use Rattle.std.specs.Prelude.{Ok, Err}
use Rattle.refusals.specs.declared.Refusal.{Refusal}
use Rattle.graph.specs.declared.new.Counts.{Counts}
use Rattle.readings.specs.Answers.{read_report, table_read, graph_read}
use Rattle.graph.specs.New.{new_of}
use Rattle.readings.proofs.Answering.{graph-answered}
use Rattle.graph.proofs.ReadingsAlike.{returned-taken, tied-alike as graph-tied}
use Rattle.mask_store.specs.declared.MaskStore.{MaskStore}
use Rattle.mask_store.specs.Masks.{allowed}
use Rattle.plan_rules.specs.Plan.{Settings, base, Sane, plan_of, plan_size, holds_plan}
use Rattle.plan_rules.proofs.RunIsWalk.{base-sane}
use Rattle.plan_rules.proofs.Again.{room-again, plan-taken, plan-long}
use Rattle.plan_rules.proofs.OwnStore.{own-allowed, own-holds}
use Rattle.planning.specs.Plan.{plan_call}
use Rattle.plans.specs.Run.{run_call}
use Rattle.plans.proofs.Unrefused.{PlanLeft, plan-left, Taken, taken-reads, reading-answers}

-- ---- graph words of any origin, and the plan that planning returned for them

module _ (set : Settings) (sane : Sane set) (graph buffer : List ℕ) (store : MaskStore) (added : ℕ)
    (made : (plan_call set graph buffer store).planning.answer ≡ Ok added) where
  abbrev g : Graph
  g = graph_from graph

  abbrev words : List ℕ
  words = (plan_call set graph buffer store).buffer

  left : PlanLeft set graph buffer store
  left = plan-left set graph buffer store added made

  -- it is taken on every store that 15 allows and that holds the plan's classes under its numbers
  pub plan-good : (other : MaskStore) → allowed other ≡ true → holds_plan set g store other ≡ true → Taken set graph words other
  plan-good other fine holds =
      let rest : List ℕ = drop (plan_size set g) buffer in
      rw left.buffer-is
      (record {
        legal = left.legal;
        long = le-ltb (length (plan_of set g store ++ rest)) (plan_size set g) (plan-long set sane g store other fine holds rest);
        room = room-again set sane g store other fine holds;
        planned = plan-taken set sane g store other fine holds rest;
      })

  -- and the run there answers the graph's reading
  pub plan-reads : (other : MaskStore) → allowed other ≡ true → holds_plan set g store other ≡ true → (text : List ℕ) → Bytes text
      → run_call set graph words other text ≡ Ok (read_graph g text)
  plan-reads other fine holds text bytes = taken-reads set graph words other sane (plan-good other fine holds) text bytes

  -- the store that planning leaves is one of those stores
  module _ (size : length store.tables ≡ 2048) where
    pub left-allowed : allowed (plan_call set graph buffer store).planning.store ≡ true
    left-allowed = rw left.store_is (own-allowed set graph left.legal store size left.room)

    pub left-holds : holds_plan set g store (plan_call set graph buffer store).planning.store ≡ true
    left-holds = rw left.store_is (own-holds set graph left.legal store size left.room)

-- ---- demand 3, of a table's words, the graph words built from them and a text

pub record Alike (set : Settings) (table words text : List ℕ) : Type 0 where
  -- table and graph, also where planning is refused
  pub graph-alike : graph_read words text ≡ table_read table text
  -- and the run, by the plan that planning left in its buffer, on every store that 15 allows and that holds this plan's classes under its numbers
  pub run-alike : (buffer : List ℕ) (store : MaskStore) (added : ℕ) → (plan_call set words buffer store).planning.answer ≡ Ok added
      → (other : MaskStore) → allowed other ≡ true → holds_plan set (graph_from words) store other ≡ true
      → run_call set words (plan_call set words buffer store).buffer other text ≡ table_read table text
  -- which is not refused
  pub run-answered : (buffer : List ℕ) (store : MaskStore) (added : ℕ) → (plan_call set words buffer store).planning.answer ≡ Ok added
      → (other : MaskStore) → allowed other ≡ true → holds_plan set (graph_from words) store other ≡ true
      → (r : Refusal) → run_call set words (plan_call set words buffer store).buffer other text ≡ Err r → ⊥

module _ (set : Settings) (sane : Sane set) (table graph errors : List ℕ) (c : Counts) (made : (new_of table graph errors).answer ≡ Ok c) where
  abbrev built : List ℕ
  built = (new_of table graph errors).graph

  pub tied-alike : Orderly (table_of table) → empty_leaves (table_of table) ≡ [] → (text : List ℕ) → Bytes text → Alike set table built text
  tied-alike orderly no-empty text bytes =
      let e : graph_read built text ≡ table_read table text = sym (graph-tied table graph errors c made orderly no-empty text bytes) in
      let r : graph_read built text ≡ Ok (read_graph (graph_from built) text) = graph-answered built text (returned-taken table graph errors c made) in
      record {
        graph-alike = e;
        run-alike = λ buffer store added p other fine holds. plan-reads set sane built buffer store added p other fine holds text bytes ∙ sym r ∙ e;
        run-answered = λ buffer store added p other fine holds n q.
            reading-answers (read_graph (graph_from built) text) n (sym (plan-reads set sane built buffer store added p other fine holds text bytes) ∙ q);
      }

  pub readings-alike : Clean (table_of table) → (text : List ℕ) → Bytes text → Alike set table built text
  readings-alike clean = tied-alike clean.orderly (clean-no-empty (table_of table) clean)

  -- on the store that planning left
  pub own-alike : Clean (table_of table) → (buffer : List ℕ) (store : MaskStore) → length store.tables ≡ 2048
      → (added : ℕ) → (plan_call set built buffer store).planning.answer ≡ Ok added → (text : List ℕ) → Bytes text
      → run_call set built (plan_call set built buffer store).buffer (plan_call set built buffer store).planning.store text ≡ table_read table text
  own-alike clean buffer store size added p text bytes =
      (readings-alike clean text bytes).run-alike buffer store added p (plan_call set built buffer store).planning.store
      (left-allowed set sane built buffer store added p size) (left-holds set sane built buffer store added p size)

  -- and so in numbers
  pub told-alike : Clean (table_of table) → (buffer : List ℕ) (store : MaskStore) (added : ℕ) → (plan_call set built buffer store).planning.answer ≡ Ok added
      → (other : MaskStore) → allowed other ≡ true → holds_plan set (graph_from built) store other ≡ true → (text : List ℕ) → Bytes text
      → (read_report (graph_read built text) ≡ read_report (table_read table text))
      × (read_report (run_call set built (plan_call set built buffer store).buffer other text) ≡ read_report (table_read table text))
  told-alike clean buffer store added p other fine holds text bytes =
      let a = readings-alike clean text bytes in
      (ap read_report a.graph-alike, ap read_report (a.run-alike buffer store added p other fine holds))

-- ---- the same of the calls themselves, at their settings: `new` was answered with counts; then what `read_table` answers of a clean table,
-- `read_graph` answers of the words that `new` left, and `run` answers by the plan that `plan` left for them

pub calls-alike : (table graph errors : List ℕ) (c : Counts) → (new_of table graph errors).answer ≡ Ok c → Clean (table_of table)
    → (text : List ℕ) → Bytes text → Alike base table (new_of table graph errors).graph text
calls-alike = readings-alike base base-sane
