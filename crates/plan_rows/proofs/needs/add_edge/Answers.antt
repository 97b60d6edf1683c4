use Rattle.std.proofs.Common.{sym, ap, ◌∙◌, [], ◌∷◌, Ok}
use Rattle.graph_rules.specs.Graph.{graph_from, state_of}
use Rattle.classes.specs.Classes.{Class}
use Rattle.edges.specs.Edges.{class_to}
use Rattle.plan_rows.specs.Needs.{after, grown_by}
use Rattle.plan_rows.proofs.Growing.{passed-on, by-none, by_number, by-refusal}
use Rattle.plan_rows.proofs.Ways.{unmasked, masked-one}
use Rattle.plan_rows.proofs.needs.add_edge.Goals as goal

pub returns-in_err-add-in-ByMask : goal.returns-in_err-add-in-ByMask
returns-in_err-add-in-ByMask c =
    rw c.in-Some.is
    (ap (λ r. after r c.add.new.self) (passed-on c.from_residual.result c.from_residual.ensures.1)
    ∙ sym (by-refusal c.args.store.now.store c.class_to.result (sym c.add.ensures.answer ∙ c.in_err-add-in-ByMask.was))
    ∙ ap (λ (x : Class). grown_by c.args.store.now.store (x ∷ [])) c.class_to.ensures
    ∙ ap (grown_by c.args.store.now.store) (masked-one _ c.in-ByMask.is c.way_to.ensures))

pub returns-in-BySelf : goal.returns-in-BySelf
returns-in-BySelf c =
    rw c.in-Some.is
    (by-none c.args.store.now.store c.args.store.now.allowed
    ∙ ap (grown_by c.args.store.now.store) (sym (unmasked (class_to (state_of (graph_from c.args.graph.words.now) c.args.s) c.in-Some.u) c.in-BySelf.is c.way_to.ensures)))

pub returns-in_ok-add-in-ByMask : goal.returns-in_ok-add-in-ByMask
returns-in_ok-add-in-ByMask c =
    rw c.in-Some.is
    (ap Ok c.add.ensures.after
    ∙ sym (by_number c.args.store.now.store c.class_to.result (sym c.add.ensures.answer ∙ c.in_ok-add-in-ByMask.was))
    ∙ ap (λ (x : Class). grown_by c.args.store.now.store (x ∷ [])) c.class_to.ensures
    ∙ ap (grown_by c.args.store.now.store) (masked-one _ c.in-ByMask.is c.way_to.ensures))

pub returns-in_default : goal.returns-in_default
returns-in_default c = rw c.in_default.is (by-none c.args.store.now.store c.args.store.now.allowed)
