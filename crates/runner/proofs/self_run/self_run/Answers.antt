-- The first place that the search finds stops; those before it are passed.
use Rattle.std.proofs.Common.{◌≡◌, ℕ, Bool, List, length, rules, true, false, get_or}
use borrow.Author.Tests.{tests}
use Rattle.std.proofs.lemmas.Iterator.{first_from_Range}
use Rattle.bits.specs.Bits.{is_set}
use Rattle.mask_store.specs.Layout.{mask_table, mask_bit, entry_place}
use Rattle.mask_store.specs.Masks.{mask_has}
use Rattle.runner.proofs.SelfRun.{stood}
use Rattle.runner.proofs.self_run.self_run.Goals as goal

abbrev has : List ℕ → ℕ → List ℕ → ℕ → Bool
has tables i text k = is_set (mask_bit i) (get_or tables (entry_place (mask_table i) (get_or text k 0)) 0)

pub returns-clause-passes : goal.returns-clause-passes
unfolding mask_has
returns-clause-passes c =
    let p = has c.args.tables.now c.args.i c.args.text.now in
    rw c.unwrap_or.ensures
    (stood p c.args.from (length c.args.text.now) c.find.result
    (first_from_Range _ _ _ c.find.result (λ k. p k ≡ false) (λ k. p k ≡ true) c.find.ensures.ran (λ k f h. search (rules, tests)) (λ k f h. search (rules, tests)))).0

pub returns-clause-stops : goal.returns-clause-stops
unfolding mask_has
returns-clause-stops c =
    let p = has c.args.tables.now c.args.i c.args.text.now in
    rw c.unwrap_or.ensures
    (stood p c.args.from (length c.args.text.now) c.find.result
    (first_from_Range _ _ _ c.find.result (λ k. p k ≡ false) (λ k. p k ≡ true) c.find.ensures.ran (λ k f h. search (rules, tests)) (λ k f h. search (rules, tests)))).1
