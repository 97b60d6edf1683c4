-- A leaf of a legal table as a word, 255 for none: leaves are below 255, so that the word tells the leaf. Assumes nothing.
use Rattle.std.specs.Prelude.{Some, unwrap_or}
use mathlib.Core.Path.{◌≡◌, ap, ◌∙◌}
use mathlib.Core.List.{List}
use Prim.Native.Nat.{ℕ, ◌<◌}
use native.Mathlib.Omega.{arith}
use lib.ListN.{get_or}
use Rattle.graph_rules.specs.Table.{table_of, refusal}
use Rattle.graph_rules.specs.Graph.{or_none}
use Rattle.graph_rules.specs.Build.{leaf_of}
use Rattle.graph_rules.proofs.Shape.{few-leaves, legal-leaf}
use Rattle.graph_rules.proofs.Words.{back_none}
use Rattle.graph_rules.specs.Layout.{no_leaf}

module _ (w : List ℕ) (legal : refusal w ≡ 0) (s : ℕ) where
  leaf-small : (x : ℕ) → leaf_of (table_of w) s ≡ Some x → x < no_leaf
  leaf-small x e = let a : x < get_or w 2 0 = legal-leaf w legal s x e in let b = few-leaves w legal in omega arith

  pub leaf-back : (l : ℕ) → l ≡ unwrap_or (leaf_of (table_of w) s) no_leaf → or_none no_leaf l ≡ leaf_of (table_of w) s
  leaf-back l e = ap (or_none no_leaf) e ∙ back_none no_leaf (leaf_of (table_of w) s) leaf-small
