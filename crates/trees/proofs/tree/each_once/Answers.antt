-- `trees::tree::each_once` meets its contract: `all` goes over the numbers from 1 on. Assumes nothing.
use Rattle.std.proofs.Common.{rules, refl, ◌∙◌, eqb, get_or, ◌-◌, ℕ, Bool}
use Rattle.std.proofs.lemmas.Iterator.{YieldsList-from_range}
use Rattle.std.proofs.lemmas.Iterator.Search.{all_from_yields_List}
use Rattle.lists.proofs.Intervals.{all-range}
use Rattle.trees.proofs.tree.each_once.Goals as goal

pub returns : goal.returns
returns c =
    let p : ℕ → Bool = λ j. eqb (get_or c.args.times.now j 0) 1 in
    all_from_yields_List p _ _ _ c.all.ensures.ran (YieldsList-from_range 1 c.args.n (c.args.n - 1) refl refl) (λ x b q k. search rules) ∙ all-range p (c.args.n - 1) 1
