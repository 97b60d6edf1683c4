-- Rule 7: the graph relabelled by the numbers of its kept states is the pruned one, also where flags and names go on past its states.
-- Assumes nothing.
use Rattle.std.specs.Prelude.{Option, None}
use mathlib.Core.Path.{◌≡◌, sym, ap, ◌∙◌}
use mathlib.Core.Bool.{Bool, false}
use mathlib.Core.List.{List, ◌++◌}
use Prim.Native.Nat.{ℕ}
use native.Mathlib.Omega.{arith}
use lib.ListN.{length, get_or, replicate}
use lib.Seq.{take_at}
use Rattle.lists.specs.Lists.{select, number_from}
use Rattle.lists.proofs.Numbers.{number-padded}
use Rattle.lists.proofs.Padding.{padding-at}
use Rattle.lists.proofs.Selecting.{select-whole}
use Rattle.graph_rules.specs.Graph.{State, Graph}
use Rattle.graph_rules.specs.Build.{relabel, restrict, kept, pruned}
use Rattle.graph_rules.proofs.Fits.{Root}
use Rattle.graph_rules.proofs.Prune.{kept-length}
use Rattle.relabel.specs.Names.{Fitting}
use Rattle.relabel.proofs.Naming.{relabel-alike, fitting-alike, pruned-fitting}

module _ (g : Graph) (j : ℕ) (names : List (Option ℕ)) (names-are : names ≡ number_from 0 (kept g ++ replicate j false)) where
  abbrev keep : List Bool
  keep = kept g ++ replicate j false

  alike : (u : ℕ) → get_or names u None ≡ get_or (number_from 0 (kept g)) u None
  alike u = ap (λ (l : List (Option ℕ)). get_or l u None) (names-are ∙ number-padded 0 (kept g) j) ∙ padding-at None (number_from 0 (kept g)) j u

  rest-is : select keep g.states ≡ select (kept g) g.states
  rest-is =
      sym (select-whole keep g.states (length g.states) (omega arith))
      ∙ ap (λ (l : List Bool). select l g.states) (take_at (kept g) (replicate j false) (length g.states) (kept-length g))

  pub prune-is : relabel names (select (kept g ++ replicate j false) g.states) g.root ≡ pruned g
  unfolding pruned restrict
  prune-is = ap (λ (r : List State). relabel names r g.root) rest-is ∙ relabel-alike names (number_from 0 (kept g)) (select (kept g) g.states) g.root alike

  pub prune-fitting : Root (length g.states) g.root → Fitting names (select (kept g ++ replicate j false) g.states) g.root
  prune-fitting root = rw rest-is (fitting-alike names (number_from 0 (kept g)) (select (kept g) g.states) g.root alike (pruned-fitting g root))
