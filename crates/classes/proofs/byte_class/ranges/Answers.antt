-- The maximal ranges, in one pass. Assumes nothing.
use Rattle.std.proofs.Common.{◌≡◌, ◌<◌, length, arith}
use Rattle.classes.proofs.FlagPass.{pass-none, pass-in, pass-out, pass-close, pass-last, pass-end}
use Rattle.classes.proofs.byte_class.ranges.Goals as goal
use Rattle.classes.proofs.byte_class.ranges.Goals.{then-not-inside, then-start-b, else-start-b, else-not-inside}

pub loop-b-init : goal.loop-b-init
loop-b-init c = pass-none c.args.class.now

pub loop-b-preserved : goal.loop-b-preserved
loop-b-preserved c =
    let class = c.args.class.now in
    let b = c.loop-b.b in
    let inside : b < length class = omega arith in
    let p = c.loop-b.invariant in
    elim c.if-not-inside.branch [
      | then-not-inside w ↦
          rw (w.ranges-is, w.count-is, w.start-is)
          (elim w.if-start-b.branch [
            | then-start-b v ↦ rw (v.ranges-is, v.count-is) (pass-close class b inside w.if-not-inside.true v.if-start-b.true (omega arith) p)
            | else-start-b v ↦ rw (v.ranges-is, v.count-is) (pass-out class b inside w.if-not-inside.true v.if-start-b.false p)
          ])
      | else-not-inside w ↦ rw (w.ranges-is, w.count-is, w.start-is) (pass-in class b inside w.if-not-inside.false p)
    ]

pub returns-then-start-lt256-clause-value : goal.returns-then-start-lt256-clause-value
returns-then-start-lt256-clause-value c =
    let full : c.loop-b.b ≡ 256 = omega arith in
    pass-last c.args.class.now (omega arith) (omega arith) (rw full at c.loop-b.invariant)

pub returns-else-start-lt256-clause-value : goal.returns-else-start-lt256-clause-value
returns-else-start-lt256-clause-value c =
    let full : c.loop-b.b ≡ 256 = omega arith in
    pass-end c.args.class.now (omega arith) (omega arith) (rw full at c.loop-b.invariant)
