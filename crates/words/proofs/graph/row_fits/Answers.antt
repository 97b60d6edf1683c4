-- `words::graph::row_fits` meets its contract: each target is judged where it stands. Assumes nothing.
use Rattle.std.proofs.Common.{ℕ, Bool, get_or, refl, ◌∙◌, rules}
use Rattle.std.proofs.lemmas.Iterator.{YieldsList-from_range}
use Rattle.std.proofs.lemmas.Iterator.Search.{all_from_yields_List}
use Rattle.lists.proofs.Intervals.{all-range}
use Rattle.graph_rules.specs.Layout.{step_count, graph_place}
use Rattle.graph_rules.specs.Graph.{target_fits}
use Rattle.words.proofs.Fitting.{row-judged}
use Rattle.words.proofs.graph.row_fits.Goals as goal

pub returns : goal.returns
returns c =
    let a = c.args in
    let p : ℕ → Bool = λ c. target_fits a.n (get_or a.graph.now (graph_place a.s c) 0) in
    all_from_yields_List p _ _ _ c.all.ensures.ran (YieldsList-from_range 0 step_count step_count refl refl) (λ x b q k. search rules)
    ∙ all-range p step_count 0
    ∙ row-judged a.graph.now a.n c.requires.n_in_bounds a.s c.requires.s_bound
