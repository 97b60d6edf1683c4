-- What is known of the plan words of a state where some classes, no matter which, give the words. Assumes nothing.
use Rattle.std.proofs.Common.{◌≡◌, [], ◌∷◌, false, List, ℕ, ◌+◌, ◌≤◌, ◌<◌, length, get_or, Some, None, slice_get}
use Rattle.std.proofs.Math.Logic.{∥∥₁_elim}
use Rattle.std.proofs.Props.{props}
use Rattle.graph_rules.specs.Graph.{Graph, state_of, to}
use Rattle.mask_store.specs.Layout.{most_masks}
use Rattle.plan_rules.specs.declared.Way.TheVariants.{ByTests}
use Rattle.plan_rules.specs.Plan.{base, table_word, own_place, edge_place, by_table, way_to}
use Rattle.plan_rules.specs.Run.{self_of, along, led_by, rows_of}
use Rattle.runner.specs.Prepared.{targets_of, PlanOn}
use Rattle.runner.proofs.PlanRow

module _ (g : Graph) (words : List ℕ) (p : ∥ PlanOn g words ∥₁) (s : ℕ) (h : s < length g.states) where
  abbrev row : List ℕ
  row = get_or (rows_of base g words) s []

  abbrev ts : List ℕ
  ts = targets_of g s

  pub self-word : self_of row ≡ get_or words (own_place base s) 0
  self-word = ∥∥₁_elim p (Prim.hlevel props) (λ on. PlanRow.self-word g words on s h)

  pub self-few : get_or words (own_place base s) 0 ≤ most_masks
  self-few = ∥∥₁_elim p (Prim.hlevel props) (λ on. PlanRow.self-few g words on s h)

  pub led-table : (tables : List ℕ) (b : ℕ) → get_or words (edge_place base s 0) 0 ≡ table_word → led_by g row tables s b ≡ to g s b
  led-table tables b e = ∥∥₁_elim p (Prim.hlevel props) (λ on. PlanRow.led-table g words on s h tables b e)

  module _ (plain : get_or words (edge_place base s 0) 0 ≡ table_word → ⊥) where
    pub led-edges : (tables : List ℕ) (b : ℕ) → led_by g row tables s b ≡ along tables (state_of g s) ts (get_or words (edge_place base s 0) 0 ∷ get_or words (edge_place base s 1) 0 ∷ []) b
    led-edges tables b = ∥∥₁_elim p (Prim.hlevel props) (λ on. PlanRow.led-edges g words on s h plain tables b)

    pub no_table : by_table base ts ≡ false
    no_table = ∥∥₁_elim p (Prim.hlevel props) (λ on. PlanRow.no_table g words on s h plain)

    pub edge_few : (j : ℕ) → j < base.edges → get_or words (edge_place base s j) 0 < 2 + most_masks
    edge_few j l = ∥∥₁_elim p (Prim.hlevel props) (λ on. PlanRow.edge_few g words on s h plain j l)

    pub edge-missing : (j : ℕ) → j < base.edges → slice_get ts j ≡ None → get_or words (edge_place base s j) 0 ≡ 0
    edge-missing j l e = ∥∥₁_elim p (Prim.hlevel props) (λ on. PlanRow.edge-missing g words on s h plain j l e)

    pub edge-compared : (j : ℕ) → j < base.edges → get_or words (edge_place base s j) 0 ≡ 1 → {u : ℕ} → slice_get ts j ≡ Some u
        → way_to base (state_of g s) s u ≡ ByTests
    edge-compared j l e q = ∥∥₁_elim p (Prim.hlevel props) (λ on. PlanRow.edge-compared g words on s h plain j l e q)
