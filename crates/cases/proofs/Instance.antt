-- K1's table is clean and K4's is clean but for its tie, both builds are answered, and so is planning the words of K1's, and those of a
-- table whose plan has a mask: the promises speak of at least these. Assumes nothing.
use Rattle.std.specs.Prelude.{Some, Ok}
use mathlib.Core.Path.{◌≡◌, refl, sym}
use mathlib.Core.Bool.{true}
use mathlib.Core.List.{List, [], ◌∷◌, ◌++◌}
use Prim.Native.Nat.{ℕ, zero, suc, ◌+◌, ◌<◌}
use native.Mathlib.Omega.{arith}
use borrow.Author.Tests.{eqb-true}
use lib.Dec.{eqb}
use lib.ListN.{length, replicate, length-replicate}
use Rattle.lists.specs.Lists.{all_l}
use Rattle.lists.proofs.Bools.{none-some}
use Rattle.lists.proofs.Elements.{all-at}
use Rattle.graph_rules.specs.Table.{Table, table_of, refusal, step, row_of}
use Rattle.graph_rules.specs.Build.{empty_leaves, chain, leaf_of}
use Rattle.graph_rules.specs.Graph.{graph_buffer, state_from, graph_from, graph_fits}
use Rattle.graph_rules.specs.Read.{Bytes, Orderly, Clean}
use Rattle.graph_rules.specs.Clean.{is_clean}
use Rattle.graph_rules.proofs.Cleanness.{clean-means}
use Rattle.readings.specs.Answers.{table_read}
use Rattle.graph.specs.New.{conflicts, wrote, wrote_or_9, written_or, new_of}
use Rattle.mask_store.specs.declared.MaskStore.{MaskStore}
use Rattle.mask_store.specs.Layout.{store_size}
use Rattle.mask_store.specs.Masks.{table_at, class_at, held, written, held_with, grown, allowed, takes}
use Rattle.edges.specs.Edges.{class_to, leads_to, targets}
use Rattle.plan_rules.specs.Plan.{base, by_table, way_to, self_needs, edge_needs, state_needs, needs, self_word, edge_words, plan_row, plan_words, plan_of, holds_plan}
use Rattle.plan_rules.proofs.RunIsWalk.{base-sane}
use Rattle.planning.specs.Plan.{PlanCall, plan_call}
use Rattle.plans.specs.Run.{run_call}
use Rattle.plans.proofs.Demand3.{own-alike, calls-alike}
use Rattle.cases.specs.Answers.{cost_of, refusal_of, graph_of}
use Rattle.cases.specs.Table.{by, all, k1, k4}
use Rattle.cases.specs.Cleanness.{clean_numbers}
use Rattle.graph_rules.specs.Layout.{step_count, graph_size}

-- ---- K1

k1-legal : refusal k1 ≡ 0
unfolding k1 refusal_of
k1-legal = refl

pub k1-clean : Clean (table_of k1)
unfolding k1 clean_numbers is_clean
k1-clean = clean-means k1 k1-legal refl

-- into buffers that have a word more than is needed
pub k1-made : (new_of k1 (replicate (graph_size 4 + 1) 7) (7 ∷ [])).answer ≡ Ok (record { states = 2; root = 0; errors = 0; words = 0 })
unfolding k1 refusal_of graph_of new_of written_or wrote_or_9 wrote conflicts
k1-made = refl

-- planning the words that this build returned, on an empty store: no class is added
abbrev pub k1-words : List ℕ
k1-words = (new_of k1 (replicate (graph_size 4 + 1) 7) (7 ∷ [])).graph

unfoldable pub emptied : MaskStore
emptied = record { tables = replicate store_size 0; count = 0 }

abbrev pub k1-call : PlanCall
k1-call = plan_call base k1-words (replicate 7 7) emptied

pub k1-planned : k1-call.planning.answer ≡ Ok 0
unfolding k1 refusal_of graph_of new_of written_or wrote_or_9 wrote conflicts emptied cost_of graph_buffer state_from graph_from graph_fits table_at class_at held written held_with grown allowed takes class_to leads_to targets by_table way_to self_needs edge_needs state_needs needs self_word edge_words plan_row plan_words plan_of plan_call
k1-planned = refl

emptied-size : length emptied.tables ≡ store_size
unfolding emptied
emptied-size = length-replicate {A = ℕ} store_size 0

-- so of every text the run by that plan, on the store that planning left, answers the table's reading
pub k1-runs : (text : List ℕ) → Bytes text → run_call base k1-words k1-call.buffer k1-call.planning.store text ≡ table_read k1 text
k1-runs = own-alike base base-sane k1 (replicate (graph_size 4 + 1) 7) (7 ∷ []) _ k1-made k1-clean (replicate 7 7) emptied emptied-size 0 k1-planned

-- ---- a table whose graph has a self edge: state 1 goes by `a` to 2, which `a` leads back to, and every other byte and the end to 3, where a leaf is

unfoldable pub looped : List ℕ
looped = 4 ∷ 1 ∷ 1 ∷ 1 ∷ 2 ∷ 0 ∷ 0 ∷ (all 0 0 ++ (by 97 2 ++ (replicate 97 3 ++ 2 ∷ (replicate 159 3 ++ 0 ∷ (all 0 1 ++ 0 ∷ 0 ∷ [])))))

looped-legal : refusal looped ≡ 0
unfolding looped refusal_of
looped-legal = refl

pub looped-clean : Clean (table_of looped)
unfolding looped clean_numbers is_clean
looped-clean = clean-means looped looped-legal refl

pub looped-made : (new_of looped (replicate (graph_size 4) 7) []).answer ≡ Ok (record { states = 3; root = 0; errors = 0; words = 0 })
unfolding looped refusal_of graph_of new_of written_or wrote_or_9 wrote conflicts
looped-made = refl

abbrev pub looped-words : List ℕ
looped-words = (new_of looped (replicate (graph_size 4) 7) []).graph

-- planning it on an empty store adds the class of `a`
abbrev pub looped-call : PlanCall
looped-call = plan_call base looped-words (replicate 9 7) emptied

pub looped-planned : looped-call.planning.answer ≡ Ok 1
unfolding looped refusal_of graph_of new_of written_or wrote_or_9 wrote conflicts emptied cost_of graph_buffer state_from graph_from graph_fits table_at class_at held written held_with grown allowed takes class_to leads_to targets by_table way_to self_needs edge_needs state_needs needs self_word edge_words plan_row plan_words plan_of plan_call
looped-planned = refl

pub looped-runs : (text : List ℕ) → Bytes text → run_call base looped-words looped-call.buffer looped-call.planning.store text ≡ table_read looped text
looped-runs = own-alike base base-sane looped (replicate (graph_size 4) 7) [] _ looped-made looped-clean (replicate 9 7) emptied emptied-size 1 looped-planned

-- and on a store that planning did not leave: `a` is mask 0 as in the plan, masks 1 and 2 are other classes, every bit from mask 3 on is set
unfoldable pub elsewhere : MaskStore
elsewhere = record { tables = replicate 97 0xF8 ++ 0xF9 ∷ 0xFA ∷ (replicate 157 0xF8 ++ replicate 1792 0xFF); count = 3 }

elsewhere-allowed : allowed elsewhere ≡ true
unfolding elsewhere table_at class_at held allowed
elsewhere-allowed = refl

elsewhere-holds : holds_plan base (graph_from looped-words) emptied elsewhere ≡ true
unfolding looped refusal_of graph_of new_of written_or wrote_or_9 wrote conflicts emptied elsewhere cost_of graph_buffer state_from graph_from graph_fits table_at class_at held held_with class_to leads_to targets by_table way_to self_needs edge_needs state_needs needs holds_plan
elsewhere-holds = refl

pub looped-elsewhere : (text : List ℕ) → Bytes text → run_call base looped-words looped-call.buffer elsewhere text ≡ table_read looped text
looped-elsewhere text bytes =
    (calls-alike looped (replicate (graph_size 4) 7) [] _ looped-made looped-clean text bytes
    ).run-alike (replicate 9 7) emptied 1 looped-planned elsewhere elsewhere-allowed elsewhere-holds

-- ---- K4

-- a state 0 all of whose steps lead to itself
zero-step : (t : Table) → all_l (eqb 0) (row_of t 0).steps ≡ true → length (row_of t 0).steps ≡ step_count → (c : ℕ) → c < step_count → step t 0 c ≡ 0
unfolding step
zero-step t all long c h = sym (eqb-true _ _ (all-at (eqb 0) (row_of t 0).steps c 0 all (omega arith)))

k4-zero : all_l (eqb 0) (row_of (table_of k4) 0).steps ≡ true
unfolding k4 graph_of
k4-zero = refl

k4-long : length (row_of (table_of k4) 0).steps ≡ step_count
unfolding k4 graph_of
k4-long = refl

k4-ends : (s l : ℕ) → ((b : ℕ) → b < 256 → leaf_of (table_of k4) (step (table_of k4) s b) ≡ Some l) → ⊥
unfolding k4 graph_of
k4-ends zero l h = none-some (h 0 (omega arith))
k4-ends (suc zero) l h = none-some (h 0 (omega arith))
k4-ends (suc (suc zero)) l h = none-some (h 0 (omega arith))
k4-ends (suc (suc (suc s))) l h = none-some (h 0 (omega arith))

k4-no-chain : chain (table_of k4) 0 ≡ []
unfolding k4 graph_of
k4-no-chain = refl

pub k4-orderly : Orderly (table_of k4)
k4-orderly =
    record {
      zero-chain = k4-no-chain;
      zero-steps = zero-step (table_of k4) k4-zero k4-long;
      end-too = λ s₀ s l st r h e. k4-ends s l h;
    }

pub k4-no-empty : empty_leaves (table_of k4) ≡ []
unfolding k4 graph_of
k4-no-empty = refl

pub k4-made : (new_of k4 (replicate (graph_size 3) 7) (7 ∷ 7 ∷ 7 ∷ 7 ∷ [])).answer ≡ Ok (record { states = 1; root = 0; errors = 1; words = 4 })
unfolding k4 refusal_of graph_of new_of written_or wrote_or_9 wrote conflicts
k4-made = refl
