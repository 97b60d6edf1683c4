-- Ranges that end before `start` are stored, and the bytes from `start` up to b are in the class.
use Rattle.classes.proofs.FlagPass.{Pass}
use Rattle.classes.proofs.byte_class.ranges.Given as goal

abbrev pub invariant-loop-b : goal.invariant-loop-b
invariant-loop-b l = Pass l.class l.ranges l.count l.start l.b
