-- The answers of the two calls, from what the check and the walk over the tree find. Assumes nothing.
use mathlib.Core.Path.{◌≡◌, refl, sym, ap, ◌∙◌}
use mathlib.Core.Bool.{Bool, true, false}
use mathlib.Core.List.{List}
use Prim.Native.Nat.{ℕ}
use Rattle.trees.specs.Tree.{count, tree_at, root, tree_fits}
use Rattle.pattern.specs.Priority.{priority, greedy_all, too_high, priority_of, greedy_of}
use Rattle.pattern.specs.Priced.{answer, priced}
use Rattle.std.specs.Prelude.{Option, Result, Ok, Err, ok_or, IsErr, IsErrAnd}
use Rattle.refusals.specs.declared.Refusal.{Refusal}
use Rattle.refusals.specs.declared.Refusal.TheVariants.{TreeForm, PriorityLimit}
use Rattle.trees.specs.Nodes.{tree_of_node}
use Rattle.trees.specs.declared.nodes.Tree.{Tree}
use Rattle.trees.specs.declared.nodes.Node.{Node}
use Rattle.pattern.proofs.TooHigh.{too-high}

-- what `?` hands on
pub refused-tree : {A : Type 0} (r : Result A Refusal) (e : Refusal) → IsErr r → IsErrAnd r (λ f. f ≡ e) → e ≡ TreeForm → r ≡ Err TreeForm
refused-tree (Ok a) e i f is = absurd f
refused-tree {A} (Err x) e i f is = ap {B = Result A Refusal} Err (f ∙ is)

pub root-tree : (tree : Tree) (w bytes : List ℕ) → tree.words.now ≡ w → tree.bytes.now ≡ bytes → (node : Node) → node.tree.now ≡ tree
    → node.number ≡ count tree.words.now → tree_of_node node ≡ tree_at w bytes (count w)
root-tree tree w bytes ew eb node et en = rw (en, et, ew, eb)

module _ (w bytes : List ℕ) where
  pub no-tree : tree_fits w bytes ≡ false → Err TreeForm ≡ priority_of w bytes
  unfolding priority_of
  no-tree e = rw (e, priority_of)

  pub no-greedy-tree : tree_fits w bytes ≡ false → Err TreeForm ≡ greedy_of w bytes
  unfolding greedy_of
  no-greedy-tree e = rw (e, greedy_of)

  module _ (fits : tree_fits w bytes ≡ true) where
    pub greedy-report : (b : Bool) → b ≡ greedy_all (root w bytes) → Ok b ≡ greedy_of w bytes
    unfolding greedy_of
    greedy-report b e = rw (fits, greedy_of) (ap {B = Result Bool Refusal} Ok e)

    -- a value where the root's tree passes no limit, and else none
    pub priority-answer : (x : Option ℕ) → x ≡ priced (tree_at w bytes (count w)) → ok_or x PriorityLimit ≡ priority_of w bytes
    unfolding priority_of priced root
    priority-answer x is-root =
        rw (fits, priority_of)
        (ap {B = Result ℕ Refusal} (λ (o : Option ℕ). ok_or o PriorityLimit)
        (is-root ∙ ap {B = Option ℕ} (λ (b : Bool). answer b (priority (tree_at w bytes (count w)))) (sym (too-high w bytes fits)))
        ∙ answered (too_high w bytes) (priority (root w bytes)))
      where
        answered : (b : Bool) (v : ℕ) → ok_or (answer b v) PriorityLimit ≡ (elim b as (λ _. Result ℕ Refusal) [ true ↦ Err PriorityLimit | false ↦ Ok v ])
        answered true v = refl
        answered false v = refl
