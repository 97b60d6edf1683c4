-- A conflict's line, and the words after it. Assumes nothing.
use Rattle.std.proofs.Common.{refl, arith, ◌≡◌, ◌<◌, ◌-◌, ◌+◌}
use Rattle.texts.proofs.Writing.{ends, underway-as}
use Rattle.display.proofs.Conflicts.{error-long}
use Rattle.print.proofs.Errors.{fit_next, lines_none, rest-fits, rest-goes, line-counts}
use Rattle.print.proofs.parts.ConflictsText.write.Goals as goal

pub invariant_of-line : goal.invariant_of-line
invariant_of-line c = record { fits = (fit_next (c.args.self.now.count - c.loop.counter) c.loop.rest.now (omega arith) c.loop.invariant.fit).0 }

pub line-next-requires : goal.line-next-requires
line-next-requires c = line-counts (c.args.self.now.count - c.loop.counter) (c.args.self.now.count - c.loop.counter - 1) c.loop.rest.now (omega arith) refl c.loop.invariant.lines c.requires

pub bounds-rest-1 : goal.bounds-rest-1
bounds-rest-1 c =
    let l = error-long c.loop.rest.now (fit_next (c.args.self.now.count - c.loop.counter) c.loop.rest.now (omega arith) c.loop.invariant.fit).0 in
    omega arith

pub slice_bounds-rest-count : goal.slice_bounds-rest-count
slice_bounds-rest-count c = error-long c.loop.rest.now (fit_next (c.args.self.now.count - c.loop.counter) c.loop.rest.now (omega arith) c.loop.invariant.fit).0

pub slice_bounds-rest-start : goal.slice_bounds-rest-start
slice_bounds-rest-start c = error-long c.loop.rest.now (fit_next (c.args.self.now.count - c.loop.counter) c.loop.rest.now (omega arith) c.loop.invariant.fit).0

pub loop-preserved : goal.loop-preserved
loop-preserved c =
    let k = c.args.self.now.count - c.loop.counter in
    let m = c.args.self.now.count - (c.loop.counter + 1) in
    let w = c.loop.rest.now in
    let some : 0 < k = omega arith in
    let fewer : m ≡ k - 1 = omega arith in
    record { fit = rest-fits k m w some fewer c.loop.invariant.fit; lines = rest-goes k m w some fewer c.loop.invariant.lines c.line-next.ensures }

pub returns : goal.returns
returns c = ends (underway-as (lines_none (c.args.self.now.count - c.loop.counter) c.loop.rest.now (omega arith)) c.loop.invariant.lines)
