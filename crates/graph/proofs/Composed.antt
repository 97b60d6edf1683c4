-- Rules 2 to 8, one after another on the lent words, are the build. Assumes nothing.
use Rattle.std.specs.Prelude.{Some}
use mathlib.Core.Path.{◌≡◌}
use mathlib.Core.List.{List}
use Prim.Native.Nat.{ℕ, ◌≤◌}
use native.Mathlib.Omega.{arith}
use lib.ListN.{length, get_or}
use Rattle.graph_rules.specs.Table.{table_of, refusal}
use Rattle.graph_rules.specs.Graph.{Graph, written_on, rewritten}
use Rattle.graph_rules.specs.Build.{with_early, with_cleared, unpruned, pruned, merged}
use Rattle.graph_rules.proofs.Fits.{Fits, first_fits, early-fits, cleared-fits, pruned-fits, pruned-few, merged-fits, merged-few}
use Rattle.graph_rules.proofs.Marks.{early-length, cleared-length}
use Rattle.graph_rules.proofs.Shape.{few-states, few-leaves}
use Rattle.rows.specs.Renumbering.{first_graph}
use Rattle.graph.proofs.Stages.{Stage, stage-next}

module _ (table : List ℕ) (legal : refusal table ≡ 0) (start : ℕ) (st : (table_of table).start ≡ Some start) (found : List ℕ) where
  abbrev n : ℕ
  n = get_or table 0 0

  abbrev m : ℕ
  m = get_or table 2 0

  abbrev At : Graph → List ℕ → Type 0
  At g w = Stage m n found g w

  next : (g : Graph) (F : Graph → Graph) (w w' : List ℕ) → At g w → w' ≡ rewritten F w → Fits m n (F g) → length (F g).states ≤ length g.states → At (F g) w'
  next g F w w' at e fits less = stage-next m n (few-leaves table legal) (few-states table legal) found g w at F w' e fits less

  abbrev first : Graph
  first = first_graph (table_of table) start

  abbrev un : Graph
  un = with_cleared (with_early first)

  pub first-stage : (w : List ℕ) → w ≡ written_on n first found → At first w
  first-stage w e = record { fits = first_fits table legal start st; holds = e }

  -- after rules 5 and 6
  unpruned-stage : (w₁ w₂ w₃ : List ℕ) → At first w₁ → w₂ ≡ rewritten with_early w₁ → w₃ ≡ rewritten with_cleared w₂ → At un w₃
  unpruned-stage w₁ w₂ w₃ s e c =
      let early : At (with_early first) w₂ =
      next first with_early w₁ w₂ s e (early-fits m n first s.fits) (let l = early-length first in omega arith)
      in
      next (with_early first) with_cleared w₂ w₃ early c (cleared-fits m n (with_early first) early.fits) (let l = cleared-length (with_early first) in omega arith)

  pub composed : (w₁ w₂ w₃ w₄ w₅ : List ℕ) → At first w₁ → w₂ ≡ rewritten with_early w₁ → w₃ ≡ rewritten with_cleared w₂ → w₄ ≡ rewritten pruned w₃ → w₅ ≡ rewritten (λ g. (merged g).graph) w₄
      → w₅ ≡ written_on n (merged (pruned (unpruned (table_of table) start))).graph found
  unfolding unpruned
  composed w₁ w₂ w₃ w₄ w₅ s e c p q =
      let at = unpruned-stage w₁ w₂ w₃ s e c in
      let kept : At (pruned un) w₄ = next un pruned w₃ w₄ at p (pruned-fits m n un at.fits) (pruned-few m n un at.fits) in
      (next (pruned un) (λ g. (merged g).graph) w₄ w₅ kept q (merged-fits m n (pruned un) kept.fits) (merged-few m n (pruned un) kept.fits)).holds
