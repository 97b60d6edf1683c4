-- The words before i are written. Assumes nothing.
use Rattle.graph.proofs.Unpacking.{Unpacked}
use Rattle.graph.proofs.image.unpack.Given as goal

abbrev pub invariant-loop-i : goal.invariant-loop-i
invariant-loop-i l = Unpacked l.fn.image l.fn.out l.i l.out
