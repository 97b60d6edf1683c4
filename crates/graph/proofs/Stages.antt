-- The build's graph between two rules: it stands at the front of the lent words, zeros follow up to the table's size, and the rest is unchanged.
-- Assumes nothing.
use mathlib.Core.Path.{◌≡◌, ap, ◌∙◌}
use mathlib.Core.Bool.{true}
use mathlib.Core.List.{List, ◌++◌}
use Prim.Native.Nat.{ℕ, ◌≤◌}
use lib.ListN.{length, get_or, drop}
use Rattle.graph_rules.specs.Graph.{Graph, graph_words, graph_buffer, graph_from, graph_fits, written_on, rewritten}
use Rattle.graph_rules.proofs.Fits.{Fits}
use Rattle.words.proofs.Buffers.{buffer-taken, buffer-back, written_over}
use Rattle.graph_rules.specs.Layout.{most_states, graph_size, no_leaf}

-- the words in front of a graph
module _ (n : ℕ) (g : Graph) (rest w : List ℕ) (e : w ≡ graph_buffer n g ++ rest) where
  pub first_word : get_or w 0 0 ≡ length g.states
  unfolding graph_buffer graph_words
  first_word = ap (λ (x : List ℕ). get_or x 0 0) e

  pub second_word : get_or w 1 0 ≡ g.root
  unfolding graph_buffer graph_words
  second_word = ap (λ (x : List ℕ). get_or x 1 0) e

-- words w hold graph g, of a table of n states; `found` is what was lent
pub record Stage (m n : ℕ) (found : List ℕ) (g : Graph) (w : List ℕ) : Type 0 where
  pub fits : Fits m n g
  pub holds : w ≡ written_on n g found

module _ (m n : ℕ) (leaves : m ≤ no_leaf) (states : n ≤ most_states) (found : List ℕ) (g : Graph) (w : List ℕ) (at : Stage m n found g w) where
  pub stage-taken : graph_fits w ≡ true
  stage-taken = ap graph_fits at.holds ∙ buffer-taken m n leaves states g at.fits (drop (graph_size n) found)

  -- a rule on the words is the rule on the graph
  pub stage-next : (F : Graph → Graph) (w' : List ℕ) → w' ≡ rewritten F w → Fits m n (F g) → length (F g).states ≤ length g.states → Stage m n found (F g) w'
  stage-next F w' e fits less =
      let count = first_word n g (drop (graph_size n) found) w at.holds in
      let back = ap graph_from at.holds ∙ buffer-back m n leaves states g at.fits (drop (graph_size n) found) in
      record {
        fits = fits;
        holds = e ∙ (λ i. written_on (count i) (F (back i)) (at.holds i)) ∙ written_over m n leaves states g at.fits (F g) less (drop (graph_size n) found);
      }
