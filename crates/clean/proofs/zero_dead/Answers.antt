-- The steps are judged one by one; then the head of the chain. Assumes nothing.
use borrow.Author.Tests.{tests}
use mathlib.Core.Path.{refl, sym, ap, ◌∙◌}
use mathlib.Core.Bool.{not}
use native.Mathlib.Omega.{arith}
use Rattle.std.proofs.Common.{rules}
use Rattle.std.proofs.Math.Bool.{not-not}
use Rattle.std.proofs.lemmas.Iterator.{serves_from_Range}
use Rattle.lists.proofs.Ranges.{all-judged_by}
use Rattle.legal.proofs.Legal.{legal-sized}
use Rattle.clean.proofs.Rows.{steps-judged, zero-not, zero-headed}
use Rattle.clean.proofs.zero_dead.Goals as goal

pub all-requires-clause-callable : goal.all-requires-clause-callable
all-requires-clause-callable c = serves_from_Range (λ x q k. search rules) (λ x a b. let z = legal-sized _ c.args.table.legal in λ κs p g e r u l. (omega arith, omega arith))

pub head-requires : goal.head-requires
head-requires c = let z = legal-sized _ c.args.table.legal in omega arith

pub returns-then-all : goal.returns-then-all
returns-then-all c =
    let w = c.args.table.words.now in
    let e = all-judged_by _ _ _ c.all.result (steps-judged w c.args.table.legal) refl refl c.all.ensures.ran (λ x f k. search (rules, tests)) (λ x f k. search (rules, tests)) in
    sym (not-not c.is_none.result) ∙ ap not (sym c.is_none.ensures) ∙ zero-headed w (sym e ∙ c.if-all.true) c.head.result c.head.ensures.number

pub returns-else-all : goal.returns-else-all
returns-else-all c =
    let w = c.args.table.words.now in
    let e = all-judged_by _ _ _ c.all.result (steps-judged w c.args.table.legal) refl refl c.all.ensures.ran (λ x f k. search (rules, tests)) (λ x f k. search (rules, tests)) in
    c.if-all.false ∙ sym (zero-not w (sym e ∙ c.if-all.false))
