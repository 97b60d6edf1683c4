-- The lines of a state's edges, target by target. Assumes nothing.
use mathlib.Core.Path.{◌≡◌, ap, ◌∙◌}
use mathlib.Core.Bool.{true, false}
use mathlib.Core.List.{List, [], ◌++◌, map}
use Prim.Native.Nat.{ℕ, suc, ◌+◌, ◌-◌, ◌≤◌, ◌<◌}
use native.Mathlib.Numerals.{add-one}
use native.Mathlib.Omega.{arith}
use Rattle.lists.specs.Lists.{tab, those}
use Rattle.texts.specs.Text.{bytes, after}
use Rattle.graph_rules.specs.Graph.{State}
use Rattle.display.specs.Display.{edge_line, edge_lines}
use Rattle.edges.specs.Edges.{class_to, leads_to, targets}

module _ (st : State) where
  abbrev line_to : ℕ → List ℕ
  line_to u = edge_line (class_to st u) u

  -- the lines of k targets from u on, each after a line end
  abbrev lines_from : ℕ → ℕ → List ℕ
  lines_from u k = after (bytes "\n") (map line_to (those (leads_to st) (tab u k (λ i. i))))

  lines-yes : (u k : ℕ) → leads_to st u ≡ true → lines_from u (suc k) ≡ (bytes "\n" ++ line_to u) ++ lines_from (suc u) k
  lines-yes u k e = rw (e, those)

  lines-no : (u k : ℕ) → leads_to st u ≡ false → lines_from u (suc k) ≡ lines_from (suc u) k
  lines-no u k e = rw (e, those)

  -- the lines of the targets from u on, of n states
  unfoldable pub lined : ℕ → ℕ → List ℕ
  lined n u = lines_from u (n - u)

  module _ (n : ℕ) where
    pub lined-all : after (bytes "\n") (edge_lines n st) ≡ lined n 0
    unfolding targets lined
    lined-all = let e : n ≡ n - 0 = omega arith in ap (lines_from 0) e

    module _ (u : ℕ) (h : u < n) where
      left : n - u ≡ suc (n - suc u)
      left = omega arith

      pub lined-edge : leads_to st u ≡ true → lined n u ≡ (bytes "\n" ++ line_to u) ++ lined n (u + 1)
      unfolding lined
      lined-edge e = rw (add-one u) (ap (lines_from u) left ∙ lines-yes u (n - suc u) e)

      pub lined-skip : leads_to st u ≡ false → lined n u ≡ lined n (u + 1)
      unfolding lined
      lined-skip e = rw (add-one u) (ap (lines_from u) left ∙ lines-no u (n - suc u) e)

    pub lined-none : (u : ℕ) → n ≤ u → lined n u ≡ []
    unfolding lined
    lined-none u h = let e : n - u ≡ 0 = omega arith in ap (lines_from u) e
