use Rattle.std.proofs.Common.{sym, ap, ◌∙◌, arith, ℕ, suc}
use Rattle.graph_rules.specs.Graph.{graph_from, state_of}
use Rattle.edges.specs.Edges.{class_to}
use Rattle.mask_store.specs.Masks.{held, number_of}
use Rattle.plan_rules.specs.declared.Way.{Way}
use Rattle.plan_rules.specs.Plan.{way_word}
use Rattle.plan_rows.specs.Rows.{target_word}
use Rattle.plan_rows.proofs.rows.edge_word.Goals as goal

pub returns-in-ByMask-clause-word : goal.returns-in-ByMask-clause-word
returns-in-ByMask-clause-word c =
    let all = held c.args.masks.store.now in
    let st = state_of (graph_from c.args.graph.words.now) c.args.s in
    ap (λ (x : ℕ). suc (suc x)) (c.number_of.ensures.value ∙ ap (number_of all) c.class_to.ensures)
    ∙ ap (λ (x : Way). way_word all x (class_to st c.in-Some.u)) (sym c.in-ByMask.is ∙ c.way_to.ensures)
    ∙ ap (target_word all st c.args.s) (sym c.in-Some.is)

pub returns-in-ByMask-clause-few : goal.returns-in-ByMask-clause-few
returns-in-ByMask-clause-few c = omega (arith, c.number_of.ensures.few)
