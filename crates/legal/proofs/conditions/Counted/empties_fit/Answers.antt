-- Every flag is judged. Assumes nothing.
use borrow.Author.Tests.{tests}
use Rattle.std.proofs.Common.{rules, refl}
use Rattle.lists.proofs.Ranges.{all-judged_by}
use Rattle.legal.proofs.Judging.{empties-judged}
use Rattle.legal.proofs.conditions.Counted.empties_fit.Goals as goal

pub returns : goal.returns
returns c =
    all-judged_by _ _ _ c.all.result (empties-judged c.args.self.words.now) refl c.leaves.ensures.0 c.all.ensures.ran (λ x f k. search (rules, tests)) (λ x f k. search (rules, tests))
