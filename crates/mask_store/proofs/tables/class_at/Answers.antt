-- Flag after flag. Assumes nothing.
use Rattle.std.proofs.Common.{Bool, false, arith}
use lib.ListN.{length-replicate}
use Rattle.lists.proofs.Tabled.{tabled-none, tabled-one}
use Rattle.mask_store.proofs.Search.{class-is}
use Rattle.mask_store.proofs.tables.class_at.Goals as goal

pub loop-b-init : goal.loop-b-init
loop-b-init c = tabled-none _ _ _ _ (length-replicate {A = Bool} 256 false)

pub loop-b-preserved : goal.loop-b-preserved
loop-b-preserved c = tabled-one _ _ _ _ c.loop-b.invariant (omega arith) c.mask_has.ensures

pub returns : goal.returns
returns c =
    let t = c.loop-b.invariant in
    class-is c.args.tables.now (omega arith) c.args.i (omega arith) _ t.long (λ k h. t.first k (omega arith))
