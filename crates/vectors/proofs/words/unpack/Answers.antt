-- `words::unpack` meets its contract: run after run is written, as far as there is room. Assumes nothing.
use Rattle.std.proofs.Common.{◌≡◌, ℕ, ◌+◌, ◌-◌, ◌*◌, ◌/◌, Some, length, arith, subst, ap}
use borrow.Author.Tests.{le-leb, lt-leb}
use Rattle.lists.proofs.Runs.{Underway, run-done}
use Rattle.vectors.specs.Runs.{words_of, spread}
use Rattle.vectors.proofs.Spread.{spread-run, spread-past, spread-many, spread-done}
use Rattle.vectors.proofs.words.unpack.Goals as goal

pub returns-then-out-to-clause-value : goal.returns-then-out-to-clause-value
returns-then-out-to-clause-value c =
    let l = c.loop-r in
    let u = l.invariant.1 in
    let long = u.long in
    rw (lt-leb _ _ (spread-many c.args.runs.now (4 * l.r) _ l.r (omega arith) u (length c.args.out.now - l.from) (omega arith) (omega arith)))

pub returns-then-out-to-clause-out_after : goal.returns-then-out-to-clause-out_after
returns-then-out-to-clause-out_after c =
    let l = c.loop-r in
    let u = l.invariant.1 in
    let long = u.long in
    spread-past c.args.runs.now (4 * l.r) _ l.r (omega arith) u (length l.out - l.from) (omega arith) (omega arith) _ _ c.half-value.ensures.0 c.fill.ensures

pub loop-r-preserved : goal.loop-r-preserved
loop-r-preserved c =
    let l = c.loop-r in
    let next : 4 * l.r + 4 ≡ 4 * (l.r + 1) = omega arith in
    let u = spread-run c.args.runs.now (4 * l.r) _ l.r (omega arith) l.invariant.1 _ _ _ c.half.ensures.0 c.half-value.ensures.0 c.fill-in-loop-r.ensures in
    (omega arith, subst (λ (p : ℕ). Underway c.args.out.now 0 (words_of c.args.runs.now) c.fill-in-loop-r.new.words (l.from + c.half.result) (spread c.args.runs.now p (length c.args.runs.now / 4 - (l.r + 1)))) next u)

pub returns-clause-value : goal.returns-clause-value
returns-clause-value c =
    let l = c.loop-r in
    let u = subst (Underway c.args.out.now 0 (words_of c.args.runs.now) l.out l.from) (spread-done c.args.runs.now (4 * l.r) _ l.r (omega arith)) l.invariant.1 in
    let place = u.place in
    let long = u.long in
    rw (le-leb (length (words_of c.args.runs.now)) (length c.args.out.now) (omega arith)) (ap (λ (n : ℕ). Some n) (omega arith))

pub returns-clause-out_after : goal.returns-clause-out_after
returns-clause-out_after c =
    let l = c.loop-r in
    run-done (subst (Underway c.args.out.now 0 (words_of c.args.runs.now) l.out l.from) (spread-done c.args.runs.now (4 * l.r) _ l.r (omega arith)) l.invariant.1)
