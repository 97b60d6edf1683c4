-- `pattern::check_for_greedy_all` meets its contract. Assumes nothing.
use Rattle.std.proofs.Common.{arith, sym, ap, ◌∙◌, ◌≡◌, Bool, ◌||◌, Bor}
use Rattle.trees.proofs.NodeLaws.{records_few}
use Rattle.trees.specs.declared.nodes.Tree.{Tree}
use Rattle.pattern.specs.Greedy.{chain_has, greedy_part}
use Rattle.pattern.proofs.GreedyLaws.{Noted, noted-goes, noted-ends}
use Rattle.pattern.proofs.Answers.{refused-tree, no-greedy-tree, greedy-report}
use Rattle.pattern.proofs.check_for_greedy_all.Goals.{then-here, else-here}
use Rattle.pattern.proofs.check_for_greedy_all.Goals as goal

pub returns-in_err-tree : goal.returns-in_err-tree
returns-in_err-tree c =
    refused-tree _ _ c.from_residual.ensures.0 c.from_residual.ensures.1 c.in_err-tree.ensures.0 ∙ no-greedy-tree _ _ c.in_err-tree.ensures.1

pub bounds-notes-i : goal.bounds-notes-i
bounds-notes-i c = omega (arith, records_few c.in_ok-tree.tree, c.count-n.ensures)

pub bounds-notes-n : goal.bounds-notes-n
bounds-notes-n c = omega (arith, records_few c.in_ok-tree.tree, c.count-n.ensures)

pub loop-i-preserved : goal.loop-i-preserved
loop-i-preserved c =
    let found : c.if-here.notes ≡ (greedy_part c.shape-shape.result c.loop-i.notes || chain_has c.next.result c.loop-i.notes) =
    elim c.if-here.branch [
      | then-here w ↦ w.notes-is ∙ w.if-here.true ∙ ap (λ (x : Bool). x || chain_has c.next.result c.loop-i.notes) (sym w.if-here.true ∙ c.greedy_part-here.ensures)
      | else-here w ↦
          w.notes-is ∙ c.chain_has-after.ensures
          ∙ ap (λ (x : Bool). x || chain_has c.next.result c.loop-i.notes) (sym w.if-here.false ∙ c.greedy_part-here.ensures)
    ] in
    let et : c.node-node.result.tree.now ≡ c.in_ok-tree.tree = ap (λ (b : Bor Tree). b.now) c.node-node.ensures.0 in
    let before : Noted c.node-node.result.tree.now c.loop-i.notes c.node-node.result.number = rw (et, c.node-node.ensures.1) c.loop-i.invariant in
    let after =
    noted-goes c.node-node.result c.loop-i.notes before c.shape-shape.result c.shape-shape.ensures.stands c.shape-shape.ensures.lower
    c.shape-shape.ensures.alone c.next.result c.next.ensures.chain c.next.ensures.lower (record { dot = c.is_dot.result; found = c.if-here.notes })
    c.is_dot.ensures found in
    rw (et, c.node-node.ensures.1) at after

pub returns : goal.returns
returns c =
    let tree = c.in_ok-tree.tree in
    greedy-report _ _ c.in_ok-tree.ensures.2 _
    (rw (c.count-n.ensures, ← c.in_ok-tree.ensures.0, ← c.in_ok-tree.ensures.1)
    (noted-ends tree c.loop-i.notes c.loop-i.i c.loop-i.invariant (omega (arith, c.count-n.ensures))))
