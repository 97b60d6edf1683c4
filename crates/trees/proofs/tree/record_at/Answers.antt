-- `trees::tree::record_at` meets its contract: record i has the six words from 6 × (i - 1). Assumes nothing.
use native.Mathlib.Nat.{add-zero}
use lib.Seq.{get_or-drop}
use Rattle.trees.specs.Tree.{record_of}
use Rattle.trees.proofs.tree.record_at.Goals as goal

pub returns : goal.returns
unfolding record_of
returns c = simp (get_or-drop, add-zero)
