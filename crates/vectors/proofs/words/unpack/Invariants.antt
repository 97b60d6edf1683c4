-- The loop of `words::unpack`: the runs from this one on are still to be written.
use Rattle.std.proofs.Common.{◌≤◌, ◌*◌, ◌-◌, ◌/◌, length}
use Rattle.lists.proofs.Runs.{Underway}
use Rattle.vectors.specs.Runs.{words_of, spread}
use Rattle.vectors.proofs.words.unpack.Given as goal

abbrev pub invariant-loop-r : goal.invariant-loop-r
invariant-loop-r l =
    (l.from ≤ length l.out)
    × Underway l.fn.out 0 (words_of l.runs) l.out l.from (spread l.runs (4 * l.r) (length l.runs / 4 - l.r))
