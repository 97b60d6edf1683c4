-- 12, 14 and 15 are answered before anything is written; then the words of what the store has grown to are those of the plan.
use Rattle.std.proofs.Common.{◌∙◌, sym, ap, List, ℕ, arith, rules}
use Rattle.graph_rules.specs.Graph.{graph_from}
use Rattle.mask_store.proofs.Search.{allowed-count}
use Rattle.plan_rules.specs.Plan.{base, needs as needed}
use Rattle.plan_rows.proofs.Growing.{passed-on, was-taken, store-grown}
use Rattle.plan_rows.specs.Needs.{stored}
use Rattle.planning.specs.Plan.{plan_call, no_plan}
use Rattle.refusals.specs.declared.Refusal.{Refusal}
use Rattle.planning.proofs.Planning.{size_is, plan-unfit, plan-short, plan-full, after_more, plan-made}
use Rattle.planning.proofs.plan.grown_by_plan.Goals as goal

pub returns-in_err-legal-clause-made : goal.returns-in_err-legal-clause-made
returns-in_err-legal-clause-made c =
    rw (passed-on c.from_residual.result c.from_residual.ensures.1)
    (plan-unfit c.args.graph.now c.args.out.now c.args.store c.in_err-legal.ensures.1 ∙ ap (λ (r : Refusal). no_plan r c.args.out.now c.args.store) (sym c.in_err-legal.ensures.0))

pub returns-then-out-states-clause-made : goal.returns-then-out-states-clause-made
returns-then-out-states-clause-made c = ap (λ (g : List ℕ). plan_call base g c.args.out.now c.args.store) (sym c.in_ok-legal.ensures.0) ∙ plan-short c.in_ok-legal.legal.words.now c.args.out.now c.args.store c.in_ok-legal.legal.fits (omega (arith, size_is c.in_ok-legal.legal.words.now _ c.states.ensures.0))

pub returns-in_err-after-clause-made : goal.returns-in_err-after-clause-made
returns-in_err-after-clause-made c =
    rw (passed-on c.from_residual-in_err-after.result c.from_residual-in_err-after.ensures.1)
    (ap (λ (g : List ℕ). plan_call base g c.args.out.now c.args.store) (sym c.in_ok-legal.ensures.0)
    ∙ plan-full c.in_ok-legal.legal.words.now c.args.out.now c.args.store c.in_ok-legal.legal.fits (omega (arith, size_is c.in_ok-legal.legal.words.now _ c.states.ensures.0)) (sym c.grow.ensures ∙ ap stored c.in_err-after.was))

pub invariant_of-masks : goal.invariant_of-masks
invariant_of-masks c = record { few = allowed-count c.in_ok-after.after.store c.in_ok-after.after.allowed }

pub write-requires : goal.write-requires
write-requires c = record { graph_in_bounds = (omega (arith, size_is c.in_ok-legal.legal.words.now _ c.states.ensures.0)) }

pub returns-clause-made : goal.returns-clause-made
returns-clause-made c =
    ap (λ (g : List ℕ). plan_call base g c.args.out.now c.args.store) (sym c.in_ok-legal.ensures.0)
    ∙ plan-made c.in_ok-legal.legal.words.now c.args.out.now c.args.store c.in_ok-legal.legal.fits (omega (arith, size_is c.in_ok-legal.legal.words.now _ c.states.ensures.0)) (was-taken c.args.store (needed base (graph_from c.in_ok-legal.legal.words.now)) (sym c.grow.ensures ∙ ap stored c.in_ok-after.was)) c.in_ok-after.after.store (store-grown c.args.store (needed base (graph_from c.in_ok-legal.legal.words.now)) (sym c.grow.ensures ∙ ap stored c.in_ok-after.was)) (search rules) c.write.new.plan c.write.ensures

pub returns-clause-more : goal.returns-clause-more
returns-clause-more c = after_more c.in_ok-legal.legal.words.now c.args.out.now c.args.store c.in_ok-legal.legal.fits (omega (arith, size_is c.in_ok-legal.legal.words.now _ c.states.ensures.0)) (was-taken c.args.store (needed base (graph_from c.in_ok-legal.legal.words.now)) (sym c.grow.ensures ∙ ap stored c.in_ok-after.was)) c.in_ok-after.after.store (store-grown c.args.store (needed base (graph_from c.in_ok-legal.legal.words.now)) (sym c.grow.ensures ∙ ap stored c.in_ok-after.was))
