-- `replay::replay` meets its contract: a turn is a step, and at the end of the list the walk has reached itself. Assumes nothing.
use Rattle.std.proofs.Common.{refl}
use Rattle.vectors.specs.Replays.Replayed.{ended}
use Rattle.vectors.proofs.Turns.{turned_to}
use Rattle.vectors.proofs.replay.replay.Goals as goal

pub loop-w-preserved : goal.loop-w-preserved
loop-w-preserved g c = λ end reaches.
    c.loop-w.invariant end (turned_to _ c.loop-w-test.true
    (_, c.alike.ensures, record { same_host = c.host.ensures; same_case = c.next.ensures; same_number = refl })
    c.noted-w.ensures.value reaches)

pub returns : goal.returns
returns g c = c.loop-w.invariant _ (ended c.loop-w-test.false)
