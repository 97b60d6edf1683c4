use Rattle.std.proofs.Common.{◌≡◌, ◌+◌, ◌<◌, ◌≤◌, refl, length, get_or, arith, rules, tests}
use Rattle.std.proofs.lemmas.Iterator.{serves_from_Range}
use Rattle.lists.proofs.Ranges.{all-judged_by}
use Rattle.graph_rules.specs.Graph.{graph_from}
use Rattle.graph_rules.proofs.Flat.{from-length}
use Rattle.mask_store.specs.Masks.{held}
use Rattle.plan_rules.specs.Plan.{base, row_size, own_place, plan_row, plan_words}
use Rattle.plan_rules.proofs.RunIsWalk.{base-sane, row-length}
use Rattle.plan_rows.proofs.Rowwise.{rows-judged}
use Rattle.plan_rows.proofs.rows.agrees.Goals as goal

pub all-requires-clause-callable : goal.all-requires-clause-callable
all-requires-clause-callable c =
    serves_from_Range (λ x q k. search rules)
    (λ x a b.
    let there : x < get_or c.args.graph.words.now 0 0 = omega (arith, c.states.ensures) in
    let room : own_place base x + row_size base ≤ length c.args.plan.now = omega (arith, c.states.ensures, from-length c.args.graph.words.now, c.requires.graph_in_bounds) in
    search (rules, there, room))

pub returns : goal.returns
unfolding plan_words
returns c =
    let g = graph_from c.args.graph.words.now in
    let all = held c.args.masks.store.now in
    let n : c.states.result ≡ length g.states = omega (arith, c.states.ensures, from-length c.args.graph.words.now) in
    all-judged_by _ _ _ c.all.result (rows-judged (plan_row base all g) (row-length base base-sane all g) c.args.plan.now n) refl refl c.all.ensures.ran (λ x q k. search (rules, tests)) (λ x q k. search (rules, tests))
