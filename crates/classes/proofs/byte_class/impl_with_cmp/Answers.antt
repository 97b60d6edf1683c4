-- The ranges joined from the left. Assumes nothing.
use Rattle.std.proofs.Common.{◌≡◌, ℕ, suc, ◌≤◌, ◌<◌, List, ◌∷◌, length, subst, arith}
use lib.ListN.{drop, take, get_or, length-take}
use lib.Seq.{drop-cons}
use Rattle.classes.specs.Classes.{Range, ranges, comparisons}
use Rattle.classes.specs.ClassAnswers.{no_range, no_entry}
use Rattle.classes.proofs.Answers.{held-all}
use Rattle.classes.proofs.Joining.{joining-none, joining-alone, latest-holes, joining-longer, joining-end}
use Rattle.classes.proofs.byte_class.impl_with_cmp.Goals as goal
use Rattle.classes.proofs.byte_class.impl_with_cmp.Goals.{then-count-gt0+then-range-list, else-count-gt0, else-count-gt0-via-then-count-gt0+else-range-list, else-count-gt0-via-else-count-gt0}

pub loop-range-init : goal.loop-range-init
loop-range-init c = (held-all (ranges c.args.class.now) c.ranges-held.ensures.value, joining-none (ranges c.args.class.now))

next : (items rs : List Range) (i : ℕ) → items ≡ rs → i < length items → drop i rs ≡ get_or items i no_range ∷ drop (suc i) rs
next items rs i e h = subst (λ (l : List Range). drop i l ≡ get_or items i no_range ∷ drop (suc i) l) e (drop-cons items i no_range h)

pub overflow_add-list-then-range-list : goal.overflow_add-list-then-range-list
overflow_add-list-then-range-list c =
    let held = c.ranges-held.result in
    let items = take held.count held.ranges in
    let i = c.loop-range.range-index in
    let rs = ranges c.args.class.now in
    let room : i < 128 = omega (arith, length-take held.count held.ranges) in
    let p = c.loop-range.invariant in
    let h = latest-holes (get_or items i no_range) no_entry (next items rs i p.0 c.loop-range-test.true) p.1 room c.if-count-gt0.true c.if-range-list.true in
    omega (arith, p.1.parted)

pub loop-range-preserved : goal.loop-range-preserved
loop-range-preserved c =
    let held = c.ranges-held.result in
    let items = take held.count held.ranges in
    let i = c.loop-range.range-index in
    let rs = ranges c.args.class.now in
    let room : i < 128 = omega (arith, length-take held.count held.ranges) in
    let p = c.loop-range.invariant in
    let follows = next items rs i p.0 c.loop-range-test.true in (
      p.0,
      elim c.if-count-gt0.branch [
        | then-count-gt0+then-range-list w ↦
            rw (w.list-is, w.except-is, w.count-is, w.gaps-is)
            (joining-longer (get_or items i no_range) no_entry follows p.1 room w.if-count-gt0.true w.if-range-list.true)
        | else-count-gt0 w ↦
            rw (w.list-is, w.except-is, w.count-is, w.gaps-is)
            (joining-alone (get_or items i no_range) no_entry follows p.1 room
            (elim w.else-count-gt0.branch [
              | else-count-gt0-via-then-count-gt0+else-range-list v ↦ λ some near. v.if-range-list.false near
              | else-count-gt0-via-else-count-gt0 v ↦ λ some near. absurd (omega (arith, v.if-count-gt0.false))
            ]))
      ],
    )

pub returns-clause-value : goal.returns-clause-value
unfolding comparisons
returns-clause-value c =
    let p = c.loop-range.invariant in
    let few : length (ranges c.args.class.now) ≤ c.loop-range.range-index = subst (λ (l : List Range). length l ≤ c.loop-range.range-index) p.0 c.loop-range-test.false in
    joining-end few p.1
