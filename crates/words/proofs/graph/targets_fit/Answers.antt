-- `words::graph::targets_fit` meets its contract: each row is judged. Assumes nothing.
use Rattle.std.proofs.Common.{ℕ, Bool, [], get_or, drop, refl, ◌∙◌, rules, arith}
use Rattle.std.proofs.lemmas.Iterator.{YieldsList-from_range}
use Rattle.std.proofs.lemmas.Iterator.Search.{all_from_yields_List}
use Rattle.lists.specs.Lists.{pieces}
use Rattle.lists.proofs.Intervals.{all-range}
use Rattle.graph_rules.specs.Layout.{row_words}
use Rattle.graph_rules.specs.Graph.{row_fits}
use Rattle.words.proofs.Fitting.{rows-judged}
use Rattle.words.proofs.graph.targets_fit.Goals as goal

pub returns : goal.returns
returns c =
    let a = c.args in
    let p : ℕ → Bool = λ s. row_fits a.n (get_or (pieces row_words a.n (drop 2 a.graph.now)) s []) in
    all_from_yields_List p _ _ _ c.all.ensures.ran (YieldsList-from_range 0 a.n a.n refl (omega arith)) (λ x b q k. search rules)
    ∙ all-range p a.n 0
    ∙ rows-judged a.graph.now a.n c.requires.n_in_bounds
