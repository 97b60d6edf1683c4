-- The first that the search finds is the lowest. Assumes nothing.
use Rattle.std.specs.Prelude.{false, ◌&&◌}
use mathlib.Core.Bool.{true}
use mathlib.Core.Path.{◌≡◌}
use lib.ListN.{get_or}
use borrow.Author.Tests.{tests}
use Rattle.std.proofs.Common.{rules}
use Rattle.std.proofs.lemmas.Iterator.{first_from_Range}
use Rattle.graph_rules.specs.Table.{table_of}
use Rattle.graph_rules.specs.Clean.{endless}
use Rattle.clean.proofs.Lowest.{lowest-found}
use Rattle.clean.proofs.Leaved.lowest_endless.Goals as goal

pub returns : goal.returns
returns c =
    let w = c.args.self.table.words.now in
    let set = c.args.set.now in
    let p = endless (table_of w) in
    lowest-found w set p c.states.result c.states.ensures.0 c.find.result
    (first_from_Range _ _ _ c.find.result (λ s. (get_or set s false && p s) ≡ true) (λ s. (get_or set s false && p s) ≡ false) c.find.ensures.ran
    (λ s f k. search (rules, tests)) (λ s f k. search (rules, tests)))
