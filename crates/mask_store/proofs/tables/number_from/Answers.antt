-- Mask after mask. Assumes nothing.
use Rattle.std.proofs.Common.{◌≡◌, ◌∙◌, true, false, arith, rules, tests}
use Rattle.std.proofs.lemmas.Iterator.{first_from_Range}
use Rattle.mask_store.specs.Masks.{class_at, same_class}
use Rattle.mask_store.proofs.Search.{first-told}
use Rattle.mask_store.proofs.tables.number_from.Goals as goal

pub returns : goal.returns
returns c =
    let tables = c.args.tables.now in
    let class = c.args.class.now in
    c.unwrap_or.ensures
    ∙ first-told tables c.args.count class c.args.from c.find.result (omega arith)
    (first_from_Range _ _ _ c.find.result (λ i. same_class class (class_at tables i) ≡ true) (λ i. same_class class (class_at tables i) ≡ false) c.find.ensures.ran (λ x q k. search (rules, tests))
    (λ x q k. search (rules, tests)))
