-- What is met is reached, and waits, or all its targets are met, or it is the state now looked at. The measure is the states that are not met, with
-- those that wait. Assumes nothing.
use Rattle.std.proofs.Common.{◌≡◌, ◌+◌, ◌-◌, length}
use Rattle.lists.specs.Sets.{In, count}
use Rattle.lists.proofs.Worklist.{AllIn}
use Rattle.worklist.proofs.Looking.{Looking}
use Rattle.graph_rules.specs.Layout.{step_count, most_states}
use Rattle.legal.specs.Conditions.{target_word}
use Rattle.legal.proofs.Steps.{Found}
use Rattle.reach.proofs.reached.Given as goal

abbrev pub invariant-loop-s : goal.invariant-loop-s
invariant-loop-s l =
    Looking (target_word l.fn.table.words.now) step_count (Found l.fn.table.words.now l.fn.start) (λ _. ⊥) l.work
    × In l.work.seen l.fn.start
    × (length l.work.seen ≡ most_states)

abbrev pub decreases-loop-s : goal.decreases-loop-s
decreases-loop-s l = (most_states - count l.work.seen) + length l.work.waiting

abbrev pub invariant-loop-c : goal.invariant-loop-c
invariant-loop-c l =
    Looking (target_word l.fn.table.words.now) step_count (Found l.fn.table.words.now l.fn.start) (λ k. k ≡ l.s) l.work
    × In l.work.seen l.fn.start
    × (length l.work.seen ≡ most_states)
    × In l.work.seen l.s
    × AllIn (target_word l.fn.table.words.now l.s) l.work.seen l.c
    × (count l.work.seen + length l.initial.work.waiting ≡ count l.initial.work.seen + length l.work.waiting)
