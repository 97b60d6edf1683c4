use Rattle.std.proofs.Common.{sym, ap, ◌∙◌, arith, rules, Ok, Err}
use Rattle.plan_rows.specs.Needs.{stored}
use Rattle.plan_rows.proofs.Growing.{passed-on, by-not}
use Rattle.plan_rows.proofs.StateNeeds.{going-none, going_more, going-refused, going_done}
use Rattle.plan_rows.proofs.needs.grow.Goals as goal

pub returns-in_err-held : goal.returns-in_err-held
returns-in_err-held c =
    ap stored (passed-on c.from_residual.result c.from_residual.ensures.1) ∙ ap (λ r. Err r) c.in_err-held.ensures.0 ∙ by-not c.args.store _ c.in_err-held.ensures.1

pub loop-s-init : goal.loop-s-init
loop-s-init c = going-none c.args.graph.words.now c.args.store c.in_ok-held.ensures.1 ∙ ap Ok (sym c.in_ok-held.ensures.0)

pub returns-in_err-held-2 : goal.returns-in_err-held-2
returns-in_err-held-2 c =
    ap stored (passed-on c.from_residual-in_err-held-2.result c.from_residual-in_err-held-2.ensures.1)
    ∙ going-refused c.args.graph.words.now c.args.store c.args.graph.fits (search rules) c.loop-s.invariant (omega (arith, c.states-s-end.ensures)) (sym c.with_state.ensures ∙ ap stored c.in_err-held-2.was)

pub loop-s-preserved : goal.loop-s-preserved
loop-s-preserved c =
    going_more c.args.graph.words.now c.args.store c.args.graph.fits (search rules) c.loop-s.invariant (omega (arith, c.states-s-end.ensures)) (sym c.with_state.ensures ∙ ap stored c.in_ok-held-2.was)

pub returns : goal.returns
returns c = going_done c.args.graph.words.now c.args.store c.loop-s.invariant (omega (arith, c.states-s-end.ensures))
