-- `trees::tree::records_fit` meets its contract: `all` goes over the numbers from 1 on. Assumes nothing.
use Rattle.std.proofs.Common.{rules, arith, refl, ◌∙◌, ◌+◌}
use Rattle.std.proofs.lemmas.Iterator.{YieldsList-from_range}
use Rattle.std.proofs.lemmas.Iterator.Search.{all_from_yields_List}
use Rattle.trees.specs.Tree.{count, record_fits}
use Rattle.lists.proofs.Intervals.{all-range}
use Rattle.trees.proofs.tree.records_fit.Goals as goal

pub returns : goal.returns
returns c =
    let p = record_fits c.args.tree.now c.args.size in
    let n = count c.args.tree.now in
    all_from_yields_List p _ _ _ c.all.ensures.ran (YieldsList-from_range 1 (n + 1) n refl (omega arith)) (λ x b q k. search rules) ∙ all-range p n 1
