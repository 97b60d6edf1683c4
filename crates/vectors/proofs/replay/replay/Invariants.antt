-- The loop of `replay::replay`: what is reached from this walk is reached from the first; the measure is what is left of the list.
use Rattle.std.proofs.Common.{◌-◌, length}
use Rattle.vectors.specs.Walk.{begun}
use Rattle.vectors.specs.Replays.{Replayed}
use Rattle.vectors.specs.declared.walk.Walk.{Walk}
use Rattle.vectors.proofs.replay.replay.Given as goal

abbrev pub invariant-loop-w : goal.invariant-loop-w
invariant-loop-w g l =
    (end : Walk) → Replayed l.list (λ turn same. goal.F-post g l.alike turn same) l.w end
    → Replayed l.list (λ turn same. goal.F-post g l.alike turn same) (begun l.leading) end

abbrev pub decreases-loop-w : goal.decreases-loop-w
decreases-loop-w g l = length l.list - l.w.at
