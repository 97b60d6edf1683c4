-- `pattern::priority` meets its contract: 10 by the check, and 11 is decided at the root. Assumes nothing.
use Rattle.std.proofs.Common.{ap, ◌∙◌, ◌≡◌, Bor}
use Rattle.trees.specs.declared.nodes.Tree.{Tree}
use Rattle.pattern.specs.Priced.{priced}
use Rattle.pattern.proofs.Answers.{refused-tree, no-tree, root-tree, priority-answer}
use Rattle.pattern.proofs.priority.Goals as goal

pub returns-in_err-tree : goal.returns-in_err-tree
returns-in_err-tree c =
    refused-tree _ _ c.from_residual.ensures.0 c.from_residual.ensures.1 c.in_err-tree.ensures.0 ∙ no-tree _ _ c.in_err-tree.ensures.1

pub returns : goal.returns
returns c =
    let et : c.root.result.tree.now ≡ c.in_ok-tree.tree = ap (λ (b : Bor Tree). b.now) c.root.ensures.0 in
    c.ok_or.ensures.value
    ∙ priority-answer _ _ c.in_ok-tree.ensures.2 _
    (c.record_value.ensures
    ∙ ap priced (root-tree c.in_ok-tree.tree _ _ c.in_ok-tree.ensures.0 c.in_ok-tree.ensures.1 c.root.result et c.root.ensures.1))
