-- The words of the row, up to the head. Assumes nothing.
use mathlib.Core.Path.{◌≡◌, sym, subst, ◌∙◌}
use mathlib.Core.List.{List}
use Prim.Native.Nat.{ℕ, ◌+◌, ◌-◌, ◌<◌}
use native.Mathlib.Omega.{arith}
use lib.ListN.{get_or, take, drop}
use Rattle.graph_rules.specs.Layout.{step_count, head_place}
use Rattle.legal.proofs.Views.{few-states, in-row, steps-are, steps-below}
use Rattle.legal.proofs.Table.steps.Goals as goal

pub row_place-at-requires-clause-s_bound : goal.row_place-at-requires-clause-s_bound
row_place-at-requires-clause-s_bound c = omega (arith, few-states _ c.args.self.legal)

pub overflow_add-result : goal.overflow_add-result
overflow_add-result c = omega (arith, few-states _ c.args.self.legal, c.row_place-at.ensures)

pub offset_bounds-self-at : goal.offset_bounds-self-at
offset_bounds-self-at c = omega (arith, few-states _ c.args.self.legal, c.row_place-at.ensures)

pub slice_bounds-result-end : goal.slice_bounds-result-end
slice_bounds-result-end c =
    let b = in-row _ c.args.self.legal _ c.args.s head_place c.leaves.ensures.0 c.requires (omega arith) in
    omega (arith, c.row_place-at.ensures)

pub returns-clause-targets : goal.returns-clause-targets
returns-clause-targets c =
    let w = c.args.self.words.now in
    let p = c.row_place-at.result in
    let n : p + 257 - p ≡ step_count = omega arith in
    (λ i. take (n i) (drop (c.row_place-at.ensures i) w)) ∙ steps-are w c.args.self.legal _ c.args.s c.leaves.ensures.0 c.requires

pub returns-clause-states : goal.returns-clause-states
returns-clause-states c =
    let w = c.args.self.words.now in
    subst (λ (l : List ℕ). (k : ℕ) → get_or l k 0 < get_or w 0 0) (sym (returns-clause-targets c)) (steps-below w c.args.self.legal _ c.args.s c.leaves.ensures.0 c.requires)
