-- Each mask is looked for behind itself. Assumes nothing.
use Rattle.std.proofs.Common.{◌∙◌, refl, sym, arith, rules, tests}
use Rattle.std.proofs.lemmas.Bool.{lt-leb}
use Rattle.lists.proofs.Ranges.{all-judged_by}
use Rattle.mask_store.specs.Masks.{store_of}
use Rattle.mask_store.proofs.Search.{once-judged, allowed-over, allowed-is}
use Rattle.mask_store.proofs.tables.allowed.Goals as goal

pub returns-then-count-le-MASKS : goal.returns-then-count-le-MASKS
returns-then-count-le-MASKS c =
    all-judged_by _ _ _ c.all.result (once-judged c.args.tables.now c.args.count) refl refl c.all.ensures.ran (λ x q k. search (rules, tests)) (λ x q k. search (rules, tests))
    ∙ sym (allowed-is (store_of c.args.tables.now c.args.count) (omega arith))

pub returns-else-count-le-MASKS : goal.returns-else-count-le-MASKS
returns-else-count-le-MASKS c = rw (lt-leb c.args.count 64 c.if-count-le-MASKS.false) (sym (allowed-over (store_of c.args.tables.now c.args.count) (omega arith)))
