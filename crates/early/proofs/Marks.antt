-- The marks that a pass over the states leaves, and that in the midst of it the early leaves are those of the beginning. Assumes nothing.
use Rattle.std.specs.Prelude.{Option, unwrap_or}
use mathlib.Core.Path.{◌≡◌, refl, ap, ◌∙◌}
use mathlib.Core.Bool.{true}
use mathlib.Core.List.{List}
use mathlib.Core.Logic.{⊎_elim}
use Prim.Native.Nat.{ℕ, ◌<◌}
use native.Mathlib.Omega.{arith}
use lib.ListN.{get_or}
use Rattle.lists.proofs.Bools.{lt-or-le}
use Rattle.graph_rules.specs.Graph.{graph_fits, graph_from, rewritten}
use Rattle.graph_rules.specs.Build.{with_early}
use Rattle.graph_rules.proofs.Fits.{early-fits}
use Rattle.graph_rules.proofs.Marks.{early-length, early-to, early-accept}
use Rattle.graph_rules.proofs.Flat.{from-length}
use Rattle.words.proofs.GraphWords.{accept-is, taken-fits}
use Rattle.words.proofs.Marking.{Marked, marked-count, marked-target, marked-later, marked-fits, marked_all}
use Rattle.early.proofs.Children.{early_leaf, early-alike}
use Rattle.graph_rules.specs.Layout.{marks_place, graph_place, no_leaf, marks_word, accept_in}

-- the marks word with the early leaf
abbrev pub mark : List ℕ → ℕ → ℕ
mark w k = marks_word (accept_in (get_or w (graph_place k marks_place) 0)) (unwrap_or (early_leaf w k) no_leaf)

module _ (w₀ : List ℕ) (taken : graph_fits w₀ ≡ true) (s : ℕ) (w : List ℕ) (m : Marked w₀ (mark w₀) s w) where
  -- in the midst of the pass the accepts, and so the early leaves, are those of the beginning
  pub still : s < get_or w₀ 0 0 → early_leaf w s ≡ early_leaf w₀ s
  still h =
      early-alike w w₀ (marked-fits w₀ taken (mark w₀) s w m) taken (marked-count w₀ taken (mark w₀) s w m) (marked-target w₀ taken (mark w₀) s w m) accepts s h
    where
      accepts : (k : ℕ) → accept_in (get_or w (graph_place k marks_place) 0) ≡ accept_in (get_or w₀ (graph_place k marks_place) 0)
      accepts k =
          ⊎_elim
          (λ l. let e = m.done k l in omega arith)
          (λ l. let e = marked-later w₀ taken (mark w₀) s w m k l in omega arith)
          (lt-or-le k s)

  pub all-marked : ((i : ℕ) → get_or w₀ i 0 < 65536) → s ≡ get_or w₀ 0 0 → w ≡ rewritten with_early w₀
  unfolding with_early graph_from
  all-marked small all =
      marked_all w₀ taken (mark w₀) s w m all (with_early (graph_from w₀))
      (early-fits no_leaf (get_or w₀ 0 0) (graph_from w₀) (taken-fits w₀ taken small)) (early-length (graph_from w₀) ∙ from-length w₀) refl (early-to (graph_from w₀))
      (λ k h. let a = ap (λ (o : Option ℕ). unwrap_or o no_leaf) (early-accept (graph_from w₀) k) ∙ accept-is w₀ taken k h in omega arith)
