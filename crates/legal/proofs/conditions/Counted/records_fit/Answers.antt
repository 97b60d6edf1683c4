-- Every record is judged. Assumes nothing.
use borrow.Author.Tests.{tests}
use Rattle.std.proofs.Common.{rules, refl}
use Rattle.lists.proofs.Ranges.{all-judged_by}
use Rattle.legal.proofs.Judging.{records-judged}
use Rattle.legal.proofs.conditions.Counted.records_fit.Goals as goal

pub returns : goal.returns
returns c =
    all-judged_by _ _ _ c.all.result (records-judged c.args.self.words.now) refl c.records.ensures.0 c.all.ensures.ran (λ x f k. search (rules, tests)) (λ x f k. search (rules, tests))
