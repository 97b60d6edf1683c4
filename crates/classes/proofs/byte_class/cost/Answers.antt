-- The sum over the comparisons. Assumes nothing.
use Rattle.std.proofs.Common.{◌∙◌, ap, rules, arith, take}
use Rattle.std.proofs.lemmas.Iterator.{YieldsList-from_slice, YieldsList-from_map}
use Rattle.std.proofs.lemmas.Iterator.Consumers.{sum_by_from_yields_List, fits_by_from_yields_list}
use Rattle.std.specs.List.{sum_by}
use Rattle.classes.specs.Classes.{comparisons, cost}
use Rattle.classes.proofs.Answers.{laid-all, entry_ops, ops-sum, ops-room}
use Rattle.classes.proofs.byte_class.cost.Goals as goal

pub sum-requires-clause-fits : goal.sum-requires-clause-fits
sum-requires-clause-fits c =
    let ms = comparisons c.args.class.now in
    let made = c.impl_with_cmp-cmp.ensures in
    let es = take c.impl_with_cmp-cmp.result.count c.impl_with_cmp-cmp.result.list in
    fits_by_from_yields_list entry_ops es c.map.result _ (YieldsList-from_map _ entry_ops (YieldsList-from_slice es (cc)) c.map.ensures.closure (λ x r q k. search rules))
    (rw (laid-all ms made.value, ops-sum ms) (omega (arith, ops-room ms made.value made.room (omega arith))))

pub returns : goal.returns
unfolding cost
returns c =
    let ms = comparisons c.args.class.now in
    let es = take c.impl_with_cmp-cmp.result.count c.impl_with_cmp-cmp.result.list in
    sum_by_from_yields_List entry_ops es c.map.result _ c.sum.ensures.ran (YieldsList-from_map _ entry_ops (YieldsList-from_slice es (cc)) c.map.ensures.closure (λ x r q k. search rules))
    ∙ ap (sum_by entry_ops) (laid-all ms c.impl_with_cmp-cmp.ensures.value)
    ∙ ops-sum ms
