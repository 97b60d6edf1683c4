-- The graph that well-formed words hold, and that only their count, root and targets decide whether they are well-formed. Assumes nothing.
use Rattle.std.specs.Prelude.{Option, Some, None, unwrap_or}
use mathlib.Core.Path.{◌≡◌, sym, ap, subst, ◌∙◌}
use mathlib.Core.Bool.{true, ◌||◌}
use mathlib.Core.List.{List, []}
use mathlib.Core.Logic.{◌⊎◌, ⊎_elim}
use Prim.Native.Nat.{ℕ, ◌≤◌, ◌<◌}
use native.Mathlib.Omega.{arith}
use borrow.Author.Tests.{eq-eqb, le-leb, lt-ltb}
use lib.Dec.{eqb, ltb}
use lib.ListN.{length, get_or, take, drop, get_or-eq_default}
use lib.Seq.{length-take-le, get_or-take}
use Rattle.lists.specs.Lists.{all_l, pieces}
use Rattle.lists.proofs.Bools.{none-some, lt-or-le, and_intro, or_left, or_right}
use Rattle.lists.proofs.Elements.{all-intro}
use Rattle.lists.proofs.Pieces.{pieces-length, piece-word}
use Rattle.graph_rules.specs.Graph.{Graph, state_of, to, accept_of, early_of, or_none, graph_from, graph_fits}
use Rattle.graph_rules.proofs.Fits.{Fits, Root}
use Rattle.graph_rules.proofs.Flat.{from-to, from-accept, from-early, piece-length, from-length, from-width}
use Rattle.graph_rules.proofs.Taken.{taken-long, taken-root, taken-target}
use Rattle.graph_rules.proofs.Views.{edge-within}
use Rattle.graph_rules.proofs.Nones.{or_word, or_some}
use Rattle.graph_rules.specs.Layout.{step_count, no_state, most_states, row_words, marks_place, graph_place, graph_size, no_leaf, accept_in, early_in}

-- ---- taken, from the words

abbrev pub Target : ℕ → ℕ → Type 0
Target n u = (u < n) ⊎ (u ≡ no_state)

module _ (w : List ℕ) (long : graph_size (get_or w 0 0) ≤ length w) (few : get_or w 0 0 ≤ most_states) where
  abbrev n : ℕ
  n = get_or w 0 0

  pub words-fit : ((s c : ℕ) → s < get_or w 0 0 → c < step_count → Target (get_or w 0 0) (get_or w (graph_place s c) 0)) → Root (get_or w 0 0) (get_or w 1 0)
      → graph_fits w ≡ true
  unfolding graph_fits
  words-fit targets root =
      and_intro _ _ (le-leb 2 (length w) (omega arith)) (and_intro _ _ (le-leb (graph_size n) (length w) long) (and_intro _ _ (le-leb n most_states few)
      (and_intro _ _ (all-intro (λ p. all_l (λ u. ltb u n || eqb u no_state) (take step_count p)) rows [] row)
      (⊎_elim
      (λ h. or_left _ _ (lt-ltb (get_or w 1 0) n h))
      (λ h. or_right (ltb (get_or w 1 0) n) _ (and_intro _ _ (eq-eqb n 0 h.0) (eq-eqb (get_or w 1 0) 0 h.1)))
      root))))
    where
      rows : List (List ℕ)
      rows = pieces row_words (get_or w 0 0) (drop 2 w)

      test : (u : ℕ) → Target n u → (ltb u n || eqb u no_state) ≡ true
      test u t = ⊎_elim (λ h. or_left _ _ (lt-ltb u n h)) (λ h. or_right (ltb u n) _ (eq-eqb u no_state h)) t

      row : (s : ℕ) → s < length rows → all_l (λ u. ltb u n || eqb u no_state) (take step_count (get_or rows s [])) ≡ true
      row s h =
          let h' : s < n = rw (pieces-length row_words n (drop 2 w)) at h in
          let p = get_or rows s [] in
          let size : length (take step_count p) ≡ step_count = length-take-le step_count p (let e = piece-length w long s h' in omega arith) in
          all-intro (λ u. ltb u n || eqb u no_state) (take step_count p) 0 (λ c b.
          let b' : c < step_count = omega arith in
          let e : get_or (take step_count p) c 0 ≡ get_or w (graph_place s c) 0 = get_or-take step_count p c 0 b' ∙ piece-word w 2 row_words n s c 0 h' (omega arith) in
          test (get_or (take step_count p) c 0) (subst (Target n) (sym e) (targets s c h' b')))

-- ---- the graph that they hold

module _ (w : List ℕ) (taken : graph_fits w ≡ true) where
  abbrev g : Graph
  g = graph_from w

  -- ---- its words, one by one

  pub target_is : (s c : ℕ) → s < get_or w 0 0 → c < step_count → unwrap_or (to (graph_from w) s c) no_state ≡ get_or w (graph_place s c) 0
  target_is s c h b = ap (λ (o : Option ℕ). unwrap_or o no_state) (from-to w (taken-long w taken) s h c b) ∙ or_word no_state (get_or w (graph_place s c) 0)

  pub accept-is : (s : ℕ) → s < get_or w 0 0 → unwrap_or (accept_of (graph_from w) s) no_leaf ≡ accept_in (get_or w (graph_place s marks_place) 0)
  accept-is s h = ap (λ (o : Option ℕ). unwrap_or o no_leaf) (from-accept w (taken-long w taken) s h) ∙ or_word no_leaf (accept_in (get_or w (graph_place s marks_place) 0))

  pub early-is : (s : ℕ) → s < get_or w 0 0 → unwrap_or (early_of (graph_from w) s) no_leaf ≡ early_in (get_or w (graph_place s marks_place) 0)
  early-is s h = ap (λ (o : Option ℕ). unwrap_or o no_leaf) (from-early w (taken-long w taken) s h) ∙ or_word no_leaf (early_in (get_or w (graph_place s marks_place) 0))

  -- ---- its edges

  -- an edge is one of the 257, and leads to a state
  pub from-edge : (s c u : ℕ) → to (graph_from w) s c ≡ Some u → (s < get_or w 0 0) × (c < step_count) × (get_or w (graph_place s c) 0 ≡ u) × (u < get_or w 0 0)
  unfolding to
  from-edge s c u e =
      let h : s < get_or w 0 0 = rw (from-length w) at (edge-within g s c u e) in
      ⊎_elim
      (λ b.
      let (x, y) = or_some no_state (get_or w (graph_place s c) 0) u (sym (from-to w (taken-long w taken) s h c b) ∙ e) in
      (h, b, x, ⊎_elim (λ l. subst (λ (z : ℕ). z < get_or w 0 0) x l) (λ l. absurd (y l)) (taken-target w taken s c h b)))
      (λ b. absurd (none-some (sym (get_or-eq_default (state_of g s).steps None (rw (from-width w (taken-long w taken) s h) b)) ∙ e)))
      (lt-or-le c step_count)

  -- ---- it fits, as its marks are of two bytes
  pub taken-fits : ((i : ℕ) → get_or w i 0 < 65536) → Fits no_leaf (get_or w 0 0) (graph_from w)
  unfolding accept_of early_of graph_from
  taken-fits small =
      record {
        states = λ s h.
            let h' : s < get_or w 0 0 = rw (from-length w) at h in
            record {
              width = from-width w (taken-long w taken) s h';
              accept-below = λ l e. leaf (accept_in (get_or w (graph_place s marks_place) 0)) l (omega arith) (sym (from-accept w (taken-long w taken) s h') ∙ e);
              early-below = λ l e. leaf (early_in (get_or w (graph_place s marks_place) 0)) l (let b = small (graph_place s marks_place) in omega arith) (sym (from-early w (taken-long w taken) s h') ∙ e);
            };
        closed = λ s c u e. rw (from-length w) (from-edge s c u e).3;
        few = let e = from-length w in omega arith;
        root = rw (from-length w) root';
      }
    where
      leaf : (x l : ℕ) → x < 256 → or_none no_leaf x ≡ Some l → l < no_leaf
      leaf x l h e = let (p, q) = or_some no_leaf x l e in omega (arith, q)

      root' : ((graph_from w).root < get_or w 0 0) ⊎ ((get_or w 0 0 ≡ 0) × ((graph_from w).root ≡ 0))
      root' = taken-root w taken
