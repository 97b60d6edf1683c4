-- The walk that is left, with the record so far, is the whole walk.
use Rattle.std.proofs.Common.{None}
use Rattle.graph_rules.specs.Read.{walk}
use Rattle.readings.proofs.Turn.{Walking}
use Rattle.readings.proofs.walk.walk.Given as goal

abbrev pub invariant-loop-k : goal.invariant-loop-k
invariant-loop-k g l =
    let v = g.W.Walker.walker l.w in
    Walking v (g.W.Walker.states l.w) l.text (walk v l.fn.start 0 None l.text) l.s l.k l.last
