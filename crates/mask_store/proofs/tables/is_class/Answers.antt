-- The flags are compared one by one. Assumes nothing.
use Rattle.std.proofs.Common.{◌≡◌, false, arith, rules, tests}
use Rattle.std.proofs.lemmas.Iterator.{YieldsList-from_slice, cases_from_all}
use Rattle.std.proofs.lemmas.Iterator.Consumers.{YieldsList-from_enumerate}
use mathlib.Core.Bool.{beq}
use Rattle.mask_store.specs.Masks.{mask_has}
use Rattle.mask_store.proofs.Search.{class-told}
use Rattle.mask_store.proofs.tables.is_class.Goals as goal

pub returns : goal.returns
returns c =
    let tables = c.args.tables.now in
    let i = c.args.i in
    let class = c.args.class.now in
    class-told tables (omega arith) i (omega arith) class (omega arith) c.all.result
    (cases_from_all _ _ _ (λ p. mask_has tables i p.0 ≡ p.1) (λ p. beq (mask_has tables i p.0) p.1 ≡ false) c.all.ensures.ran (YieldsList-from_enumerate (YieldsList-from_slice class (cc)) (cc)) (λ x q k. search (rules, tests))
    (λ x q k. search (rules, tests)))
