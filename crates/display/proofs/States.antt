-- The text of a graph, state by state. Assumes nothing.
use mathlib.Core.Path.{◌≡◌, ap, ◌∙◌}
use mathlib.Core.List.{List, [], ◌++◌, map}
use Prim.Native.Nat.{ℕ, ◌+◌, ◌≤◌, ◌<◌}
use native.Mathlib.Omega.{arith}
use lib.ListN.{length, get_or, drop, length-map}
use Rattle.lists.specs.Lists.{below, pieces}
use Rattle.lists.proofs.Elements.{length-tab, get_or-tab0}
use Rattle.lists.proofs.Pieces.{pieces-length}
use Rattle.texts.specs.Text.{bytes, after, joined}
use Rattle.texts.proofs.Joins.{joined-none, joined-first, after_next, after_none}
use Rattle.graph_rules.specs.Graph.{state_of, graph_from, state_from}
use Rattle.display.specs.Display.{state_text, displayed}
use Rattle.graph_rules.specs.Layout.{row_words}

module _ (w : List ℕ) where
  abbrev n : ℕ
  n = get_or w 0 0

  abbrev pub text_of : ℕ → List ℕ
  text_of s = state_text (get_or w 0 0) s (state_of (graph_from w) s)

  -- the states from s on, each after a line end
  unfoldable pub listed : ℕ → List ℕ
  listed s = after (bytes "\n") (map text_of (drop s (below (get_or w 0 0))))

  count : length (below n) ≡ n
  count = length-tab 0 n (λ i. i)

  pub display-all : displayed (graph_from w) ≡ joined (bytes "\n") (map text_of (below (get_or w 0 0)))
  unfolding displayed graph_from
  display-all =
      ap (λ (k : ℕ). joined (bytes "\n") (map (λ s. state_text k s (state_of (graph_from w) s)) (below k)))
      (length-map (pieces row_words n (drop 2 w)) state_from ∙ pieces-length row_words n (drop 2 w))

  pub display-none : n ≡ 0 → displayed (graph_from w) ≡ []
  display-none h = display-all ∙ joined-none (bytes "\n") text_of (below n) (let c = count in omega arith)

  pub display-first : 0 < n → displayed (graph_from w) ≡ text_of 0 ++ listed 1
  unfolding listed
  display-first h =
      display-all
      ∙ joined-first (bytes "\n") text_of (below n) 0 (let c = count in omega arith)
      ∙ ap (λ (s : ℕ). text_of s ++ listed 1) (get_or-tab0 n (λ i. i) 0 0 h)

  pub listed_next : (s : ℕ) → s < n → listed s ≡ (bytes "\n" ++ text_of s) ++ listed (s + 1)
  unfolding listed
  listed_next s h =
      after_next (bytes "\n") text_of (below n) 0 s (let c = count in omega arith)
      ∙ ap (λ (k : ℕ). (bytes "\n" ++ text_of k) ++ listed (s + 1)) (get_or-tab0 n (λ i. i) s 0 h)

  pub listed-none : (s : ℕ) → n ≤ s → listed s ≡ []
  unfolding listed
  listed-none s h = after_none (bytes "\n") text_of (below n) s (let c = count in omega arith)
