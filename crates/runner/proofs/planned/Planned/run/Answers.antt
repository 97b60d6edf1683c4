use Rattle.std.proofs.Common.{sym, ◌∙◌, arith}
use Rattle.graph_rules.specs.Read.{graph_walker}
use Rattle.readings.proofs.Starts.{root_below}
use Rattle.runner.proofs.Running.{rest-start, no-states, marked, run_ends, run-stops, run-goes}
use Rattle.runner.proofs.planned.Planned.run.Goals as goal

pub returns-then-states-eq0 : goal.returns-then-states-eq0
returns-then-states-eq0 c = c.none.ensures ∙ no-states c.args.self.now.graph.words.now c.args.self.now.plan.now c.args.self.now.tables.now c.args.text.now (sym c.states.ensures.0 ∙ c.if-states-eq0.true)

pub loop-last-init : goal.loop-last-init
loop-last-init c = (rw c.root-s.ensures.0 (root_below c.args.self.now.graph.words.now c.args.self.now.graph.fits (λ z. c.if-states-eq0.false (c.states.ensures.0 ∙ z))), omega arith, rw c.none-last.ensures (rest-start c.args.self.now.graph.words.now c.args.self.now.plan.now c.args.self.now.tables.now c.args.text.now c.root-s.result c.root-s.ensures.0))

pub returns-then-j-text : goal.returns-then-j-text
unfolding graph_walker
returns-then-j-text c = c.ended.ensures ∙ run_ends c.args.self.now.graph.words.now c.args.self.now.plan.now c.args.self.now.tables.now c.args.text.now c.args.self.now.plan_on _ c.loop-last.s c.loop-last.invariant.0 c.loop-last.k c.passed-j.result c.loop-last.last c.record.new.self c.loop-last.invariant.2 c.passed-j.ensures.lower_bound.0 c.passed-j.ensures.lower_bound.1 c.passed-j.ensures.passes (marked c.args.self.now.graph.words.now c.loop-last.s c.passed-j.result c.entered.result c.loop-last.last c.record.new.self (c.entered.ensures.value c.loop-last.last) c.record.ensures) c.if-j-text.true

pub returns-in_default : goal.returns-in_default
returns-in_default c =
    run-stops c.args.self.now.graph.words.now c.args.self.now.plan.now c.args.self.now.tables.now c.args.text.now c.args.self.now.plan_on _ c.loop-last.s c.loop-last.invariant.0 c.loop-last.k c.passed-j.result c.loop-last.last c.record.new.self c.loop-last.invariant.2 c.passed-j.ensures.lower_bound.0 c.passed-j.ensures.lower_bound.1 c.passed-j.ensures.passes (marked c.args.self.now.graph.words.now c.loop-last.s c.passed-j.result c.entered.result c.loop-last.last c.record.new.self (c.entered.ensures.value c.loop-last.last) c.record.ensures) (omega (arith, c.passed-j.ensures.lower_bound)) (c.passed-j.ensures.stops (omega (arith, c.passed-j.ensures.lower_bound))) c.step.result c.step.ensures.led c.in_default.is

pub loop-last-preserved : goal.loop-last-preserved
loop-last-preserved c = (
  c.in-Some.ensures.state,
  omega (arith, c.passed-j.ensures.lower_bound),
  run-goes c.args.self.now.graph.words.now c.args.self.now.plan.now c.args.self.now.tables.now c.args.text.now c.args.self.now.plan_on _ c.loop-last.s c.loop-last.invariant.0 c.loop-last.k c.passed-j.result c.loop-last.last c.record.new.self c.loop-last.invariant.2 c.passed-j.ensures.lower_bound.0 c.passed-j.ensures.lower_bound.1 c.passed-j.ensures.passes (marked c.args.self.now.graph.words.now c.loop-last.s c.passed-j.result c.entered.result c.loop-last.last c.record.new.self (c.entered.ensures.value c.loop-last.last) c.record.ensures) (omega (arith, c.passed-j.ensures.lower_bound)) (c.passed-j.ensures.stops (omega (arith, c.passed-j.ensures.lower_bound))) c.step.result c.step.ensures.led c.in-Some.is,
)
