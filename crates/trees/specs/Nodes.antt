-- What a node and its shape stand for. Definitions only.
use Rattle.std.specs.Prelude.{◌≡◌, ◌≤◌, ◌<◌, Option, Some, None, ⊤}
use Rattle.trees.specs.Tree.{Tree, Chain, empty, literal, class, look, repetition, capture, concat, alternation, done, part, tree_at, chain_at}
use Rattle.trees.specs.declared.nodes.Node.{Node}
use Rattle.trees.specs.declared.nodes.Shape.{Shape}
use Rattle.trees.specs.declared.nodes.Shape.TheVariants as shape

-- the tree of a node's record
abbrev pub tree_of_node : Node → Tree
tree_of_node node = tree_at node.tree.now.words.now node.tree.now.bytes.now node.number

-- the chain that begins at a node, if there is one
abbrev pub chain_of : Node → Chain
chain_of node = chain_at node.tree.now.words.now node.tree.now.bytes.now node.number

abbrev pub chain_of_first : Option Node → Chain
chain_of_first None = done
chain_of_first (Some node) = chain_of node

-- the tree that a shape stands for
abbrev pub tree_of_shape : Shape → Tree
tree_of_shape shape.Empty = empty
tree_of_shape (shape.Literal text) = literal text.now
tree_of_shape (shape.Class dot) = class dot
tree_of_shape shape.Look = look
tree_of_shape (shape.Repetition min greedy unbounded node) = repetition min greedy unbounded (tree_of_node node)
tree_of_shape (shape.Capture node) = capture (tree_of_node node)
tree_of_shape (shape.Concat first) = concat (chain_of_first first)
tree_of_shape (shape.Alternation first) = alternation (chain_of_first first)

-- a node is of the same tree as another, and has a lower number
abbrev pub Below : Node → Node → Type 0
Below node above = (node.tree ≡ above.tree) × (node.number < above.number)

abbrev pub FirstBelow : Option Node → Node → Type 0
FirstBelow None above = 0 ≤ above.number
FirstBelow (Some node) above = Below node above

-- and so is each that a shape holds
abbrev pub PartsBelow : Shape → Node → Type 0
PartsBelow shape.Empty above = 0 ≤ above.number
PartsBelow (shape.Literal text) above = 0 ≤ above.number
PartsBelow (shape.Class dot) above = 0 ≤ above.number
PartsBelow shape.Look above = 0 ≤ above.number
PartsBelow (shape.Repetition min greedy unbounded node) above = Below node above
PartsBelow (shape.Capture node) above = Below node above
PartsBelow (shape.Concat first) above = FirstBelow first above
PartsBelow (shape.Alternation first) above = FirstBelow first above

-- the one child of a repetition or a capture is a chain of its own
abbrev pub PartAlone : Shape → Type 0
PartAlone shape.Empty = ⊤
PartAlone (shape.Literal text) = ⊤
PartAlone (shape.Class dot) = ⊤
PartAlone shape.Look = ⊤
PartAlone (shape.Repetition min greedy unbounded node) = chain_of node ≡ part (tree_of_node node) done
PartAlone (shape.Capture node) = chain_of node ≡ part (tree_of_node node) done
PartAlone (shape.Concat first) = ⊤
PartAlone (shape.Alternation first) = ⊤
