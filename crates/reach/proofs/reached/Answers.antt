-- A state that is taken off gets its targets met. Assumes nothing.
use Rattle.std.proofs.Common.{◌≡◌, ◌<◌, length, Bool, false, refl, sym, ap, subst, ◌∙◌, arith}
use lib.ListN.{length-replicate}
use borrow.Author.Count.{below_none, below_more}
use Rattle.lists.specs.Sets.{In, count}
use Rattle.lists.proofs.Counting.{count-length}
use Rattle.worklist.specs.Work.{Work, begun, pushed}
use Rattle.worklist.proofs.Looking.{none-met, met, taken, taken-fewer, closed, pushed-in, pushed-keeps, pushed-length, pushed-balance}
use Rattle.graph_rules.specs.Layout.{step_count, most_states}
use Rattle.graph_rules.proofs.Flat.{step-word}
use Rattle.legal.specs.Conditions.{target_word}
use Rattle.legal.proofs.Legal.{legal-sized}
use Rattle.legal.proofs.Steps.{Found, found-start, found_below, found-step, reached-is}
use Rattle.reach.proofs.reached.Goals as goal

pub push-requires : goal.push-requires
push-requires c = let z = legal-sized c.args.table.words.now c.args.table.legal in (omega arith, omega arith)

pub loop-s-init : goal.loop-s-init
loop-s-init c =
    let w = c.args.table.words.now in
    let z = legal-sized w c.args.table.legal in
    let none = begun most_states in
    let e : c.push.new.self ≡ pushed none c.args.start = c.push.ensures ∙ ap (λ (x : Work). pushed x c.args.start) c.new-work.ensures in
    let n : length none.seen ≡ most_states = length-replicate {A = Bool} most_states false in
    rw e (
      met (target_word w) step_count (Found w c.args.start) none c.args.start (found-start w c.args.table.legal c.args.start c.requires)
          (none-met (target_word w) step_count (Found w c.args.start) most_states),
      pushed-in none c.args.start (omega arith),
      pushed-length none c.args.start ∙ n,
    )

pub loop-c-init : goal.loop-c-init
loop-c-init c =
    let w = c.args.table.words.now in
    let i = c.loop-s.invariant in (
      taken (target_word w) step_count (Found w c.args.start) c.loop-s.work c.pop.new.self c.in-Some.s c.pop.ensures.seen c.in-Some.ensures.waiting i.0,
      subst (λ l. In l c.args.start) (sym c.pop.ensures.seen) i.1,
      ap length c.pop.ensures.seen ∙ i.2,
      c.in-Some.ensures.taken.0,
      below_none _,
      refl,
    )

pub loop-s-smaller : goal.loop-s-smaller
loop-s-smaller c =
    let i = c.loop-c.invariant in
    let b = i.5 in
    let m = taken-fewer c.loop-s.work c.pop.new.self c.in-Some.s c.in-Some.ensures.waiting in
    let a = ap count c.pop.ensures.seen in
    omega (arith, count-length c.loop-c.work.seen, count-length c.loop-s.work.seen)

pub push-requires-in-loop-c : goal.push-requires-in-loop-c
push-requires-in-loop-c c = let z = legal-sized c.args.table.words.now c.args.table.legal in let h = c.step.ensures.1 in (omega arith, omega arith)

pub loop-c-preserved : goal.loop-c-preserved
loop-c-preserved c =
    let w = c.args.table.words.now in
    let legal = c.args.table.legal in
    let i = c.loop-c.invariant in
    let old = c.loop-c.work in
    let u = c.step.result in
    let z = legal-sized w legal in
    let f = i.0.good c.in-Some.s i.3 in
    let below = found_below w legal c.args.start c.requires c.in-Some.s f in
    let e : u ≡ target_word w c.in-Some.s c.loop-c.c = c.step.ensures.0 ∙ step-word w c.in-Some.s c.loop-c.c below c.loop-c-test.true in
    let inside : u < length old.seen = let h = c.step.ensures.1 in let l = i.2 in omega arith in
    rw c.push-in-loop-c.ensures (
      met (target_word w) step_count (Found w c.args.start) old u
          (subst (Found w c.args.start) (sym e) (found-step w legal c.args.start c.requires c.in-Some.s c.loop-c.c f c.loop-c-test.true)) i.0,
      pushed-keeps old u c.args.start i.1,
      pushed-length old u ∙ i.2,
      pushed-keeps old u c.in-Some.s i.3,
      below_more _ c.loop-c.c (λ k h. pushed-keeps old u _ (i.4 k h)) (subst (In (pushed old u).seen) e (pushed-in old u inside)),
      (let p = pushed-balance old u inside in let q = i.5 in omega arith),
    )

pub returns : goal.returns
returns c =
    let w = c.args.table.words.now in
    let i = c.loop-s.invariant in
    let s = c.pop.ensures.seen in
    c.seen.ensures
    ∙ s
    ∙ reached-is w c.args.table.legal c.args.start c.requires c.loop-s.work.seen i.2 i.1
    (closed (target_word w) step_count (Found w c.args.start) c.loop-s.work c.in_default.ensures.waiting i.0)
    i.0.good
