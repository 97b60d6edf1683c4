-- A priority is its low half and 65,536 times its high half. Assumes nothing.
use mathlib.Core.Path.{ap, ◌∙◌}
use Prim.Native.Nat.{ℕ}
use Rattle.graph_rules.specs.Table.{table_of, leaf_at}
use Rattle.legal.proofs.Views.{priority-is}
use Rattle.leaves.specs.Chains.{priority_at}
use Rattle.leaves.proofs.priority.Goals as goal

pub returns : goal.returns
unfolding priority_at
returns c =
    let w = c.args.i.table.words.now in
    priority-is w c.args.i.table.legal c.leaf-leaf.result _ _ c.leaf-leaf.ensures.1 c.leaf_word.ensures.0 c.leaf_word-2.ensures.0
    ∙ ap (λ (l : ℕ). (leaf_at (table_of w) l).priority) c.leaf-leaf.ensures.0
