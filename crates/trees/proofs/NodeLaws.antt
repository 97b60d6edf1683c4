-- What a node's record is: what it names is lower, and its tree, by its kind. Assumes nothing.
use Rattle.std.specs.Prelude.{Option, Some, None, MatchOption}
use mathlib.Core.Path.{◌≡◌, sym, ◌∙◌}
use mathlib.Core.Bool.{Bool}
use Prim.Native.Nat.{ℕ, ◌+◌, ◌-◌, ◌<◌, ◌≤◌}
use native.Mathlib.Omega.{arith}
use lib.ListN.{length, take, drop}
use Rattle.trees.specs.Layout.{empty_kind, literal_kind, class_kind, look_kind, repetition_kind, capture_kind, concat_kind, alternation_kind, kind_count, number_count, dot_flag, greedy_flag, unbounded_flag}
use Rattle.trees.specs.Tree.{Tree, empty, literal, class, look, repetition, capture, concat, alternation, done, part, first_of, flag, count, record_of, chain_at, tree_of}
use Rattle.trees.specs.Nodes.{tree_of_node, chain_of, chain_of_first, Below, FirstBelow}
use Rattle.trees.specs.declared.tree.Record.{Record}
use Rattle.trees.specs.declared.nodes.Node.{Node}
use Rattle.trees.specs.declared.nodes.Tree as nodes
use Rattle.trees.proofs.TreeLaws.{RecordRules, tree-rules, rules-of, literal-inside, child-there, chain-none, chain-part, first-child, tree-at, tree-literal, tree-class, tree-concat, tree-alternation, tree-repetition, tree-capture, tree-empty, tree-look}

-- the node of a number that a record names, if it names one
abbrev pub Named : Option Node → Node → ℕ → Type 0
Named o self number = MatchOption o (number ≡ 0) (λ node. (node.tree ≡ self.tree) × (node.number ≡ number))

module _ (self : Node) (r : Record) (e : r ≡ record_of self.tree.now.words.now self.number) where
  rules : RecordRules self.tree.now.words.now (length self.tree.now.bytes.now) self.number r
  rules = rw e (rules-of self.tree.now.words.now self.tree.now.bytes.now self.tree.now.fits self.number self.some self.there)

  pub child-in : r.child ≤ count self.tree.now.words.now
  child-in = omega (arith, rules.child, self.there)

  pub next-in : r.next ≤ count self.tree.now.words.now
  next-in = omega (arith, rules.next, self.there)

  pub literal-in : r.kind ≡ literal_kind → r.a + r.b ≤ length self.tree.now.bytes.now
  literal-in = rw e (literal-inside self.tree.now.words.now self.tree.now.bytes.now self.tree.now.fits self.number self.some self.there)

  pub child-is : repetition_kind ≤ r.kind → r.kind < concat_kind → 0 < r.child
  child-is = rw e (λ l u. (child-there self.tree.now.words.now self.tree.now.bytes.now self.tree.now.fits self.number self.some self.there l u).0)

  child-ends : repetition_kind ≤ r.kind → r.kind < concat_kind → (record_of self.tree.now.words.now r.child).next ≡ 0
  child-ends = rw e (λ l u. (child-there self.tree.now.words.now self.tree.now.bytes.now self.tree.now.fits self.number self.some self.there l u).1)

  -- ---- its tree

  its : (t : Tree) → tree_of self.tree.now.bytes.now r (chain_at self.tree.now.words.now self.tree.now.bytes.now r.child) ≡ t → t ≡ tree_of_node self
  its t q = sym (tree-at self.tree.now.words.now self.tree.now.bytes.now self.number r e ∙ q)

  pub at-none : kind_count ≤ r.kind → empty ≡ tree_of_node self
  at-none h = absurd (omega (arith, rules.kind))

  pub at-empty : r.kind ≡ empty_kind → empty ≡ tree_of_node self
  at-empty k = its _ (tree-empty _ r _ k)

  pub at-look : r.kind ≡ look_kind → look ≡ tree_of_node self
  at-look k = its _ (tree-look _ r _ k)

  pub at-literal : r.kind ≡ literal_kind → literal (take (r.a + r.b - r.a) (drop r.a self.tree.now.bytes.now)) ≡ tree_of_node self
  at-literal k = let n : r.a + r.b - r.a ≡ r.b = omega arith in rw n (its _ (tree-literal _ r _ k))

  pub at-class : r.kind ≡ class_kind → (dot : Bool) → dot ≡ flag dot_flag r.flags → class dot ≡ tree_of_node self
  at-class k dot d = rw d (its _ (tree-class _ r _ k))

  module _ (node : Node) (of : node.tree ≡ self.tree) (is : node.number ≡ r.child) where
    pub part-lower : Below node self
    part-lower = (of, omega (arith, is, rules.child))

    pub part-alone : repetition_kind ≤ r.kind → r.kind < concat_kind → chain_of node ≡ part (tree_of_node node) done
    unfolding chain_at
    part-alone l u =
        let next : (record_of self.tree.now.words.now r.child).next ≡ 0 = child-ends l u in
        rw (of, is)
        (chain-part self.tree.now.words.now self.tree.now.bytes.now self.tree.now.fits r.child (child-is l u) child-in
        ∙ (rw (next, chain-none self.tree.now.words.now self.tree.now.bytes.now self.tree.now.fits 0)))

    first : repetition_kind ≤ r.kind → r.kind < concat_kind → first_of (chain_at self.tree.now.words.now self.tree.now.bytes.now r.child) ≡ tree_of_node node
    first l u =
        first-child self.tree.now.words.now self.tree.now.bytes.now self.tree.now.fits r.child (child-is l u) child-in
        ∙ (rw (of, is))

    pub at-repetition : r.kind ≡ repetition_kind → (greedy unbounded : Bool) → greedy ≡ flag greedy_flag r.flags → unbounded ≡ flag unbounded_flag r.flags
        → repetition r.a greedy unbounded (tree_of_node node) ≡ tree_of_node self
    at-repetition k greedy unbounded g u =
        rw (g, u, ← first (omega arith) (omega arith)) (its _ (tree-repetition _ r _ k))

    pub at-capture : r.kind ≡ capture_kind → capture (tree_of_node node) ≡ tree_of_node self
    at-capture k = rw (← first (omega arith) (omega arith)) (its _ (tree-capture _ r _ k))

  pub next-chain : (o : Option Node) → Named o self r.next → chain_of self ≡ part (tree_of_node self) (chain_of_first o)
  unfolding chain_at
  next-chain None m =
      chain-part self.tree.now.words.now self.tree.now.bytes.now self.tree.now.fits self.number self.some self.there
      ∙ (rw (← e, m, chain-none self.tree.now.words.now self.tree.now.bytes.now self.tree.now.fits 0))
  next-chain (Some node) m =
      chain-part self.tree.now.words.now self.tree.now.bytes.now self.tree.now.fits self.number self.some self.there
      ∙ (rw (← e, m.0, m.1))

  pub next-below : (o : Option Node) → Named o self r.next → FirstBelow o self
  next-below None m = omega arith
  next-below (Some node) m = (m.0, omega (arith, m.1, rules.next))

  first-chain : (o : Option Node) → Named o self r.child → chain_of_first o ≡ chain_at self.tree.now.words.now self.tree.now.bytes.now r.child
  unfolding chain_at
  first-chain None m = rw m (sym (chain-none self.tree.now.words.now self.tree.now.bytes.now self.tree.now.fits 0))
  first-chain (Some node) m = rw (m.0, m.1)

  pub first-lower : (o : Option Node) → Named o self r.child → FirstBelow o self
  first-lower None m = omega arith
  first-lower (Some node) m = (m.0, omega (arith, m.1, rules.child))

  pub at-concat : r.kind ≡ concat_kind → (o : Option Node) → Named o self r.child → concat (chain_of_first o) ≡ tree_of_node self
  at-concat k o m = rw (first-chain o m) (its _ (tree-concat _ r _ k))

  pub at-alternation : r.kind ≡ alternation_kind → (o : Option Node) → Named o self r.child → alternation (chain_of_first o) ≡ tree_of_node self
  at-alternation k o m = rw (first-chain o m) (its _ (tree-alternation _ r _ k))

-- a tree has at most 1,024 records, and a node's number is one of them
pub records_few : (tree : nodes.Tree) → count tree.words.now < number_count
records_few tree = omega (arith, (tree-rules tree.words.now tree.bytes.now tree.fits).most)

pub number_few : (node : Node) → node.number < number_count
number_few node = omega (arith, (tree-rules node.tree.now.words.now node.tree.now.bytes.now node.tree.now.fits).most, node.there)

-- a chain begins with its first record
pub begins : (node : Node) → chain_of node ≡ part (tree_of_node node) (chain_at node.tree.now.words.now node.tree.now.bytes.now (record_of node.tree.now.words.now node.number).next)
begins node = chain-part node.tree.now.words.now node.tree.now.bytes.now node.tree.now.fits node.number node.some node.there
