-- The greedy test, record by record: what a record tells from what those below it told, and the loop over all of them. Assumes nothing.
use Rattle.std.specs.Prelude.{Option, Some, None}
use mathlib.Core.Path.{◌≡◌, refl, sym, ap, ◌∙◌}
use mathlib.Core.Bool.{Bool, ◌&&◌, ◌||◌}
use mathlib.Core.List.{List}
use Prim.Native.Nat.{ℕ, ◌+◌, ◌<◌}
use native.Mathlib.Omega.{arith}
use lib.ListN.{length, get_or, set, length-set}
use lib.Seq.{get_or-set_same, get_or-set_other}
use Rattle.lists.proofs.Bools.{or-false, Order, order, less, equal, more}
use Rattle.trees.specs.Layout.{number_count}
use Rattle.trees.specs.Tree.{part, count, chain_at, tree_at, root}
use Rattle.trees.specs.Nodes.{tree_of_node, chain_of, chain_of_first, tree_of_shape, Below, FirstBelow, PartsBelow, PartAlone}
use Rattle.trees.specs.declared.nodes.Tree.{Tree}
use Rattle.trees.specs.declared.nodes.Node.{Node}
use Rattle.trees.specs.declared.nodes.Shape.{Shape}
use Rattle.trees.specs.declared.nodes.Shape.TheVariants as shape
use Rattle.pattern.specs.Priority.{is_dot, greedy_all, some_greedy}
use Rattle.pattern.specs.Greedy.{no_note, chain_has, greedy_part}
use Rattle.pattern.specs.declared.greedy.Note.{Note}
use Rattle.trees.proofs.NodeLaws.{number_few}
use Rattle.trees.proofs.TreeLaws.{tree-rules, chain-none, chain-part}

-- ---- the notes of the records before i

pub record Noted (tree : Tree) (notes : List Note) (i : ℕ) : Type 0 where
  pub long : length notes ≡ number_count
  pub dots : (j : ℕ) → 0 < j → j < i → (get_or notes j no_note).dot ≡ is_dot (tree_at tree.words.now tree.bytes.now j)
  pub chains : (j : ℕ) → 0 < j → j < i → (get_or notes j no_note).found ≡ some_greedy (chain_at tree.words.now tree.bytes.now j)

-- ---- one record, by the notes of those below it

module _ (node : Node) (notes : List Note) (n : Noted node.tree.now notes node.number) where
  dot-of : (inner : Node) → Below inner node → (get_or notes inner.number no_note).dot ≡ is_dot (tree_of_node inner)
  dot-of inner b = rw b.0 (n.dots inner.number inner.some b.1)

  chain-noted : (inner : Node) → Below inner node → (get_or notes inner.number no_note).found ≡ some_greedy (chain_of inner)
  chain-noted inner b = rw b.0 (n.chains inner.number inner.some b.1)

  first-noted : (first : Option Node) → FirstBelow first node → chain_has first notes ≡ some_greedy (chain_of_first first)
  unfolding some_greedy
  first-noted None b = refl
  first-noted (Some inner) b = chain-noted inner b

  part-noted : (s : Shape) → PartsBelow s node → PartAlone s → greedy_part s notes ≡ greedy_all (tree_of_shape s)
  unfolding greedy_all some_greedy
  part-noted shape.Empty b a = refl
  part-noted (shape.Literal text) b a = refl
  part-noted (shape.Class dot) b a = refl
  part-noted shape.Look b a = refl
  part-noted (shape.Repetition min greedy unbounded inner) b a = ap (λ (x : Bool). x && unbounded && greedy) (dot-of inner b)
  part-noted (shape.Capture inner) b a = chain-noted inner b ∙ ap some_greedy a ∙ or-false (greedy_all (tree_of_node inner))
  part-noted (shape.Concat first) b a = first-noted first b
  part-noted (shape.Alternation first) b a = first-noted first b

  module _ (s : Shape) (stands : tree_of_shape s ≡ tree_of_node node) (lower : PartsBelow s node) (alone : PartAlone s) (next : Option Node)
      (chain : chain_of node ≡ part (tree_of_node node) (chain_of_first next)) (below : FirstBelow next node) (note : Note)
      (dot : note.dot ≡ is_dot (tree_of_shape s)) (found : note.found ≡ (greedy_part s notes || chain_has next notes)) where
    its-chain : note.found ≡ some_greedy (chain_of node)
    unfolding some_greedy
    its-chain =
        found
        ∙ ap (λ (x : Bool). x || chain_has next notes) (part-noted s lower alone ∙ ap greedy_all stands)
        ∙ ap (λ (x : Bool). greedy_all (tree_of_node node) || x) (first-noted next below)
        ∙ sym (ap some_greedy chain)

    in-notes : node.number < length notes
    in-notes = rw n.long (number_few node)

    -- a note more
    pub noted-goes : Noted node.tree.now (set notes node.number note) (node.number + 1)
    noted-goes =
        record {
          long = length-set notes node.number note ∙ n.long;
          dots = λ j l u. dots-at j l u (order j node.number);
          chains = λ j l u. chains-at j l u (order j node.number);
        }
      where
        dots-at : (j : ℕ) → 0 < j → j < node.number + 1 → Order j node.number
            → (get_or (set notes node.number note) j no_note).dot ≡ is_dot (tree_at node.tree.now.words.now node.tree.now.bytes.now j)
        dots-at j l u (less k) = ap (λ (m : Note). m.dot) (get_or-set_other notes node.number j note no_note (λ q. omega arith)) ∙ n.dots j l k
        dots-at j l u (equal k) = rw k (ap (λ (m : Note). m.dot) (get_or-set_same notes node.number note no_note in-notes) ∙ dot ∙ ap is_dot stands)
        dots-at j l u (more k) = absurd (omega arith)

        chains-at : (j : ℕ) → 0 < j → j < node.number + 1 → Order j node.number
            → (get_or (set notes node.number note) j no_note).found ≡ some_greedy (chain_at node.tree.now.words.now node.tree.now.bytes.now j)
        chains-at j l u (less k) = ap (λ (m : Note). m.found) (get_or-set_other notes node.number j note no_note (λ q. omega arith)) ∙ n.chains j l k
        chains-at j l u (equal k) = rw k (ap (λ (m : Note). m.found) (get_or-set_same notes node.number note no_note in-notes) ∙ its-chain)
        chains-at j l u (more k) = absurd (omega arith)

-- the root's chain is the root alone
pub noted-ends : (tree : Tree) (notes : List Note) (i : ℕ) → Noted tree notes i → count tree.words.now < i → (get_or notes (count tree.words.now) no_note).found ≡ greedy_all (root tree.words.now tree.bytes.now)
unfolding root chain_at some_greedy
noted-ends tree notes i n h =
    let w = tree.words.now in
    let bytes = tree.bytes.now in
    let rules = tree-rules w bytes tree.fits in
    let rest = ap {B = Bool} (λ (x : ℕ). some_greedy (chain_at w bytes x)) rules.last ∙ ap some_greedy (chain-none w bytes tree.fits 0) in
    n.chains (count w) rules.some h
    ∙ ap some_greedy (chain-part w bytes tree.fits (count w) rules.some (omega arith))
    ∙ ap (λ (x : Bool). greedy_all (tree_at w bytes (count w)) || x) rest
    ∙ or-false (greedy_all (tree_at w bytes (count w)))
