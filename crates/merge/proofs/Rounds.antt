-- The rounds of rule 8: how the merge goes on after one, and the words after some. Assumes nothing.
use mathlib.Core.Path.{◌≡◌, refl, sym, ap, ◌∙◌}
use mathlib.Core.Bool.{true, false}
use mathlib.Core.List.{List}
use Prim.Native.Nat.{ℕ, zero, suc, ◌≤◌, ◌<◌}
use native.Mathlib.Nat.{not-suc-le-zero}
use native.Mathlib.Omega.{arith}
use lib.ListN.{length, get_or, drop}
use Rattle.lists.proofs.Bools.{Is, is, yes-is, no-is}
use Rattle.graph_rules.specs.Graph.{Graph, graph_fits, graph_from, written_on, rewritten}
use Rattle.graph_rules.specs.Build.{merge_round, merges_none, merge_for, merged}
use Rattle.graph_rules.proofs.Fits.{Fits, round-fits}
use Rattle.graph_rules.proofs.Merge.{stops, goes_on, round-fewer}
use Rattle.graph_rules.proofs.Flat.{from-length}
use Rattle.words.proofs.GraphWords.{taken-fits}
use Rattle.words.proofs.Buffers.{buffer-back, taken-words, written_over}
use Rattle.graph_rules.specs.Layout.{most_states, graph_size, no_leaf}

-- ---- rounds

-- more rounds than states change nothing
enough : (k j : ℕ) (g : Graph) → length g.states < k → length g.states < j → (merge_for k g).graph ≡ (merge_for j g).graph
enough zero j g h l = absurd (not-suc-le-zero h)
enough (suc k) zero g h l = absurd (not-suc-le-zero l)
enough (suc k) (suc j) g h l = go (is (merges_none g)) (enough k j (merge_round g))
  where
    go : Is (merges_none g) → (length (merge_round g).states < k → length (merge_round g).states < j → (merge_for k (merge_round g)).graph ≡ (merge_for j (merge_round g)).graph)
        → (merge_for (suc k) g).graph ≡ (merge_for (suc j) g).graph
    go (yes-is q) f = rw (stops k g q, stops j g q)
    go (no-is q) f = let a = round-fewer g q in rw (goes_on k g q, goes_on j g q) (f (omega arith) (omega arith))

pub merged-stops : (g : Graph) → merges_none g ≡ true → (merged g).graph ≡ g
unfolding merged
merged-stops g e = rw (stops (length g.states) g e)

pub merged-goes : (g : Graph) → merges_none g ≡ false → (merged (merge_round g)).graph ≡ (merged g).graph
unfolding merged
merged-goes g e =
    let a = round-fewer g e in
    rw (goes_on (length g.states) g e) (enough (suc (length (merge_round g).states)) (length g.states) (merge_round g) (omega arith) (omega arith))

-- ---- the words after some rounds: w₀ at the beginning

pub record Merging (w₀ w : List ℕ) : Type 0 where
  pub taken : graph_fits w ≡ true
  pub len : length w ≡ length w₀
  pub fits : Fits no_leaf (get_or w₀ 0 0) (graph_from w)
  pub buffer : w ≡ written_on (get_or w₀ 0 0) (graph_from w) w₀
  pub left : (merged (graph_from w)).graph ≡ (merged (graph_from w₀)).graph

pub merging-none : (w₀ : List ℕ) → graph_fits w₀ ≡ true → ((i : ℕ) → get_or w₀ i 0 < 65536) → Merging w₀ w₀
merging-none w₀ taken small =
    record { taken = taken; len = refl; fits = taken-fits w₀ taken small; buffer = taken-words w₀ taken small; left = refl }

module _ (w₀ : List ℕ) (few : get_or w₀ 0 0 ≤ most_states) (w : List ℕ) (m : Merging w₀ w) where
  abbrev n : ℕ
  n = get_or w₀ 0 0

  abbrev g : Graph
  g = graph_from w

  abbrev rest : List ℕ
  rest = drop (graph_size n) w₀

  pub merging-done : merges_none (graph_from w) ≡ true → w ≡ rewritten (λ g. (merged g).graph) w₀
  merging-done e = m.buffer ∙ ap (λ (x : Graph). written_on n x w₀) (sym (merged-stops g e) ∙ m.left)

  module _ (e : merges_none (graph_from w) ≡ false) (v : List ℕ)
      (round : v ≡ rewritten merge_round w) where
    written : v ≡ written_on n (merge_round g) w₀
    written =
        let fewer = round-fewer g e in
        round ∙ ap (λ (k : ℕ). written_on k (merge_round g) w) (sym (from-length w))
        ∙ ap (written_on (length g.states) (merge_round g)) m.buffer
        ∙ written_over no_leaf n (omega arith) few g m.fits (merge_round g) (omega arith) rest

    read : graph_from v ≡ merge_round g
    read = ap graph_from written ∙ buffer-back no_leaf n (omega arith) few (merge_round g) (round-fits no_leaf n g m.fits) rest

    -- a round leaves fewer states
    pub merging-less : get_or v 0 0 < get_or w 0 0
    merging-less =
        let a = from-length v in
        let b = from-length w in
        let c = ap (λ (x : Graph). length x.states) read in
        let d = round-fewer g e in
        omega arith

    pub merging-more : graph_fits v ≡ true → length v ≡ length w → Merging w₀ v
    merging-more taken len =
        record {
          taken = taken;
          len = len ∙ m.len;
          fits = rw read (round-fits no_leaf n g m.fits);
          buffer = rw read written;
          left = ap (λ (x : Graph). (merged x).graph) read ∙ merged-goes g e ∙ m.left;
        }
