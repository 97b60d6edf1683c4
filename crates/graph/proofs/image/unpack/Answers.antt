-- One word more; all are written. Assumes nothing.
use lib.ListN.{length-set}
use Rattle.graph.proofs.Unpacking.{unpacked-one, unpacked-all}
use Rattle.graph.proofs.image.unpack.Goals as goal

pub loop-i-preserved : goal.loop-i-preserved
loop-i-preserved c =
    unpacked-one c.args.image.now c.args.out.now c.requires c.loop-i.i c.loop-i.out _ c.loop-i.invariant c.loop-i-test.true c.word.ensures
    (simp length-set c.loop-i.invariant.1)

pub returns : goal.returns
returns c = unpacked-all c.args.image.now c.args.out.now c.requires c.loop-i.i c.loop-i.out c.loop-i.invariant c.loop-i-test.false
