-- The flags are the kept states, their numbers the new names, and relabelling by them is the prune. Assumes nothing.
use Rattle.std.proofs.Common.{◌≡◌, ℕ, ◌-◌, ◌++◌, List, Bool, true, false, Option, get_or, replicate, ap, ◌∙◌}
use Rattle.lists.specs.Lists.{select, number_from}
use Rattle.graph_rules.specs.Graph.{Graph, written_on, graph_fits, graph_from}
use Rattle.graph_rules.specs.Build.{kept, relabel}
use Rattle.graph_rules.specs.Layout.{most_states}
use Rattle.graph_rules.proofs.Taken.{taken-root}
use Rattle.graph_rules.proofs.Flat.{from-length}
use Rattle.relabel.specs.Names.{Fitting}
use Rattle.prune.proofs.Pruning.{prune-is, prune-fitting}
use Rattle.prune.proofs.prune.Goals as goal

fitting : (w : List ℕ) → graph_fits w ≡ true → (keep : List Bool) (names : List (Option ℕ)) (j : ℕ) → keep ≡ kept (graph_from w) ++ replicate j false
    → names ≡ number_from 0 (kept (graph_from w) ++ replicate j false) → Fitting names (select keep (graph_from w).states) (graph_from w).root
unfolding graph_from
fitting w taken keep names j e n = rw e (prune-fitting (graph_from w) j names n (rw (from-length w) (taken-root w taken)))

pub relabel-requires-clause-fitting : goal.relabel-requires-clause-fitting
relabel-requires-clause-fitting c =
    let w = c.args.graph.now in
    fitting w c.requires c.kept-keep.result c.numbered-names.result (most_states - get_or w 0 0) c.kept-keep.ensures
    (c.numbered-names.ensures ∙ ap (number_from 0) c.kept-keep.ensures)

pub returns-clause-graph_after : goal.returns-clause-graph_after
returns-clause-graph_after c =
    let w = c.args.graph.now in
    c.relabel.ensures.graph_after
    ∙ ap (λ (g : Graph). written_on (get_or w 0 0) g w)
    (ap (λ (k : List Bool). relabel c.numbered-names.result (select k (graph_from w).states) (graph_from w).root) c.kept-keep.ensures
    ∙ prune-is (graph_from w) (most_states - get_or w 0 0) c.numbered-names.result (c.numbered-names.ensures ∙ ap (number_from 0) c.kept-keep.ensures))
