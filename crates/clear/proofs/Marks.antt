-- The marks that a pass over the states leaves. Assumes nothing.
use Rattle.std.specs.Prelude.{Option, None, unwrap_or}
use mathlib.Core.Path.{◌≡◌, refl, ap, ◌∙◌}
use mathlib.Core.Bool.{Bool, true, false, cond}
use mathlib.Core.List.{List}
use Prim.Native.Nat.{ℕ, ◌<◌}
use native.Mathlib.Omega.{arith}
use lib.ListN.{get_or}
use Rattle.lists.proofs.Bools.{Is, is, yes-is, no-is}
use Rattle.graph_rules.specs.Graph.{Graph, State, graph_fits, graph_from, accept_of, early_of, rewritten}
use Rattle.graph_rules.specs.Build.{covered, cleared, with_cleared}
use Rattle.graph_rules.proofs.Fits.{cleared-fits}
use Rattle.graph_rules.proofs.Marks.{cleared-length, cleared-to, cleared-state, cleared-early}
use Rattle.graph_rules.proofs.Flat.{from-length}
use Rattle.words.proofs.GraphWords.{accept-is, early-is, taken-fits}
use Rattle.words.proofs.Marking.{Marked, marked_all}
use Rattle.graph_rules.specs.Layout.{marks_place, graph_place, no_leaf, marks_word, early_in}

-- the marks word, without the accept of a covered state
abbrev pub mark : List ℕ → ℕ → ℕ
mark w k = let x = get_or w (graph_place k marks_place) 0 in cond (covered (graph_from w) k) (marks_word no_leaf (early_in x)) x

pub mark-is : (w : List ℕ) → graph_fits w ≡ true → (k : ℕ) → k < get_or w 0 0
    → mark w k ≡ marks_word (unwrap_or (accept_of (with_cleared (graph_from w)) k) no_leaf) (unwrap_or (early_of (with_cleared (graph_from w)) k) no_leaf)
unfolding accept_of cleared
mark-is w taken k h = go (is (covered g k))
  where
    g : Graph
    g = graph_from w

    x : ℕ
    x = get_or w (graph_place k marks_place) 0

    accept : (b : Bool) → covered g k ≡ b → unwrap_or (accept_of (with_cleared g) k) no_leaf ≡ unwrap_or (cond b None (accept_of g k)) no_leaf
    accept b e =
        ap (λ (s : State). unwrap_or s.accept no_leaf) (cleared-state g k (rw (from-length w) h))
        ∙ ap (λ (b : Bool). unwrap_or (cond b None (accept_of g k)) no_leaf) e

    early : unwrap_or (early_of (with_cleared g) k) no_leaf ≡ early_in x
    early = ap (λ (o : Option ℕ). unwrap_or o no_leaf) (cleared-early g k) ∙ early-is w taken k h

    go : Is (covered g k) → mark w k ≡ marks_word (unwrap_or (accept_of (with_cleared g) k) no_leaf) (unwrap_or (early_of (with_cleared g) k) no_leaf)
    go (yes-is q) = let a = accept true q in let b = early in rw q (omega arith)
    go (no-is q) = let a = accept false q ∙ accept-is w taken k h in let b = early in rw q (omega arith)

module _ (w₀ : List ℕ) (taken : graph_fits w₀ ≡ true) (s : ℕ) (w : List ℕ) (m : Marked w₀ (mark w₀) s w) where
  pub all-marked : ((i : ℕ) → get_or w₀ i 0 < 65536) → s ≡ get_or w₀ 0 0 → w ≡ rewritten with_cleared w₀
  unfolding with_cleared graph_from
  all-marked small all =
      marked_all w₀ taken (mark w₀) s w m all (with_cleared (graph_from w₀))
      (cleared-fits no_leaf (get_or w₀ 0 0) (graph_from w₀) (taken-fits w₀ taken small)) (cleared-length (graph_from w₀) ∙ from-length w₀) refl (cleared-to (graph_from w₀))
      (mark-is w₀ taken)
