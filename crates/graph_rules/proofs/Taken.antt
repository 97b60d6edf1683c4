-- What well-formed graph words have (refusal 12). Assumes nothing.
use mathlib.Core.Path.{◌≡◌, sym, subst, ◌∙◌}
use mathlib.Core.Bool.{true, ◌||◌}
use mathlib.Core.List.{List, []}
use mathlib.Core.Logic.{◌⊎◌, inl, inr, ⊎_elim}
use Prim.Native.Nat.{ℕ, ◌≤◌, ◌<◌}
use native.Mathlib.Omega.{arith}
use borrow.Author.Tests.{eqb-true, leb-true, ltb-true}
use lib.Dec.{eqb, leb, ltb}
use lib.ListN.{length, get_or, take, drop}
use lib.Seq.{length-take-le, get_or-take}
use Rattle.lists.specs.Lists.{all_l, pieces}
use Rattle.lists.proofs.Bools.{and_both, or_cases}
use Rattle.lists.proofs.Elements.{all-at}
use Rattle.lists.proofs.Pieces.{pieces-length, piece-word}
use Rattle.graph_rules.specs.Graph.{graph_fits}
use Rattle.graph_rules.proofs.Flat.{piece-length}
use Rattle.graph_rules.specs.Layout.{step_count, no_state, most_states, row_words, graph_place, graph_size}

module _ (w : List ℕ) (taken : graph_fits w ≡ true) where
  abbrev n : ℕ
  n = get_or w 0 0

  abbrev rows : List (List ℕ)
  rows = pieces row_words n (drop 2 w)

  abbrev Parts : Type 0
  Parts = (graph_size n ≤ length w) × (n ≤ most_states)
      × (all_l (λ p. all_l (λ u. ltb u n || eqb u no_state) (take step_count p)) rows ≡ true) × ((get_or w 1 0 < n) ⊎ ((n ≡ 0) × (get_or w 1 0 ≡ 0)))

  parts : Parts
  unfolding graph_fits
  parts =
      let a = (and_both (leb 2 (length w)) _ taken).1 in
      let b = and_both (leb (graph_size n) (length w)) _ a in
      let c = and_both (leb n most_states) _ b.1 in
      let d = and_both (all_l (λ p. all_l (λ u. ltb u n || eqb u no_state) (take step_count p)) rows) _ c.1 in (
        leb-true (graph_size n) (length w) b.0,
        leb-true n most_states c.0,
        d.0,
        ⊎_elim
            (λ h. inl (ltb-true (get_or w 1 0) n h))
            (λ h. let z = and_both (eqb n 0) _ h in inr (eqb-true n 0 z.0, eqb-true (get_or w 1 0) 0 z.1))
            (or_cases (ltb (get_or w 1 0) n) _ d.1),
      )

  pub taken-long : graph_size (get_or w 0 0) ≤ length w
  taken-long = parts.0

  pub taken-few : get_or w 0 0 ≤ most_states
  taken-few = parts.1

  pub taken-root : (get_or w 1 0 < get_or w 0 0) ⊎ ((get_or w 0 0 ≡ 0) × (get_or w 1 0 ≡ 0))
  taken-root = parts.3

  -- a target word is below the count, or 65,535
  pub taken-target : (i c : ℕ) → i < get_or w 0 0 → c < step_count → (get_or w (graph_place i c) 0 < get_or w 0 0) ⊎ (get_or w (graph_place i c) 0 ≡ no_state)
  taken-target i c h b =
      let p = get_or rows i [] in
      let long : length p ≡ row_words = piece-length w taken-long i h in
      let short : length (take step_count p) ≡ step_count = length-take-le step_count p (omega arith) in
      let row = all-at (λ p. all_l (λ u. ltb u n || eqb u no_state) (take step_count p)) rows i [] parts.2 (rw (pieces-length row_words n (drop 2 w)) h) in
      let one : (ltb (get_or (take step_count p) c 0) n || eqb (get_or (take step_count p) c 0) no_state) ≡ true = all-at (λ u. ltb u n || eqb u no_state) (take step_count p) c 0 row (omega arith) in
      let e : get_or (take step_count p) c 0 ≡ get_or w (graph_place i c) 0 = get_or-take step_count p c 0 b ∙ piece-word w 2 row_words n i c 0 h (omega arith) in
      ⊎_elim
      (λ x. inl (subst (λ (y : ℕ). y < n) e (ltb-true _ n x)))
      (λ x. inr (sym e ∙ eqb-true _ no_state x))
      (or_cases (ltb (get_or (take step_count p) c 0) n) _ one)
