-- `answers::refusal` meets its contract: what `find` finds is the first of all that has the number. Assumes nothing.
use Rattle.std.proofs.Common.{rules, tests, sym, subst, ◌∙◌}
use lib.Dec.{eqb}
use Rattle.std.proofs.lemmas.Iterator.Adapters.{option_map_id}
use Rattle.std.proofs.lemmas.Iterator.{YieldsList-from_slice}
use Rattle.std.proofs.lemmas.Iterator.Consumers.{YieldsList-from_copied}
use Rattle.std.proofs.lemmas.Iterator.Search.{find_from_yields_List}
use Rattle.refusals.specs.Refusals.{number}
use Rattle.vectors.specs.Answers.{Named}
use Rattle.vectors.proofs.Refusals.{every, first-named}
use Rattle.vectors.proofs.answers.refusal.Goals as goal

pub returns : goal.returns
returns c =
    let n = c.args.number in
    let found = find_from_yields_List (λ r. eqb (number r) n) _ _ c.find.result c.find.ensures.ran (YieldsList-from_copied (YieldsList-from_slice every cc)) (λ x b q k. search (rules, tests)) in
    subst (Named n) (sym (sym (option_map_id _) ∙ found)) (first-named n)
