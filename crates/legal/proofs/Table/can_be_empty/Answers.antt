-- The flag is a leaf's third word. Assumes nothing.
use Rattle.std.proofs.Common.{ℕ, eqb, ap}
use Rattle.legal.proofs.Views.{empty-is}
use Rattle.legal.proofs.Table.can_be_empty.Goals as goal

pub returns : goal.returns
returns c = ap (λ (x : ℕ). eqb x 1) (empty-is _ c.args.self.legal _ _ c.requires c.leaf_word.ensures.0)
