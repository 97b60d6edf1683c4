-- New names: names that read alike relabel alike; the names of the prune and of a merge round fit. Assumes nothing.
use Rattle.std.specs.Prelude.{Option, Some, None, unwrap_or}
use mathlib.Core.Path.{◌≡◌, sym, ◌∙◌}
use mathlib.Core.List.{List, map}
use Prim.Native.Nat.{ℕ}
use lib.ListN.{length, get_or}
use Rattle.lists.specs.Lists.{select, distinct, number_from}
use Rattle.graph_rules.specs.Graph.{State, Graph, same}
use Rattle.graph_rules.specs.Build.{renamed, relabel, kept}
use Rattle.graph_rules.proofs.Fits.{Root, restrict-rooted, round-rooted}
use Rattle.graph_rules.proofs.Merge.{names, placed}
use Rattle.graph_rules.proofs.Prune.{kept-length, kept-root, restrict-placed}
use Rattle.relabel.specs.Names.{Fitting}

-- ---- names that read alike

pub relabel-alike : (a b : List (Option ℕ)) (rest : List State) (root : ℕ) → ((u : ℕ) → get_or a u None ≡ get_or b u None) → relabel a rest root ≡ relabel b rest root
unfolding relabel renamed
relabel-alike a b rest root same =
    λ i. record {
      states = map (λ s. record { steps = map (λ o. elim o [ None ↦ None | Some u ↦ same u i ]) s.steps; accept = s.accept; early = s.early }) rest;
      root = unwrap_or (same root i) 0;
    }

pub fitting-alike : (a b : List (Option ℕ)) (rest : List State) (root : ℕ) → ((u : ℕ) → get_or a u None ≡ get_or b u None) → Fitting b rest root → Fitting a rest root
fitting-alike a b rest root same f =
    record { below = λ s i e. f.below s i (sym (same s) ∙ e); root_below = rw (same root) f.root_below }

-- ---- names that fit

module _ (g : Graph) (root : Root (length g.states) g.root) where
  pub pruned-fitting : Fitting (number_from 0 (kept g)) (select (kept g) g.states) g.root
  pruned-fitting =
      record {
        below = λ s i e. (restrict-placed g (kept g) (kept-length g) s i e).0;
        root_below = restrict-rooted g (kept g) (kept-length g) (kept-root g) root;
      }

  pub round-fitting : Fitting (names g) (distinct same g.states) g.root
  round-fitting = record { below = λ s i e. (placed g s i e).0; root_below = round-rooted g root }
