-- What the words of a graph say through `Graph`: an edge, and the marks of a state. Assumes nothing.
use Rattle.std.specs.Prelude.{Option, IfSome}
use mathlib.Core.Path.{◌≡◌, sym, ap, ◌∙◌}
use mathlib.Core.Bool.{true}
use mathlib.Core.List.{List}
use mathlib.Core.Logic.{⊎_elim}
use Prim.Native.Nat.{ℕ, ◌<◌}
use native.Mathlib.Omega.{arith}
use borrow.Author.Tests.{eqb-false}
use lib.Dec.{eqb}
use lib.ListN.{length, get_or}
use Rattle.graph_rules.specs.Graph.{to, accept_of, early_of, or_none, graph_from, graph_fits}
use Rattle.graph_rules.proofs.Flat.{from-to, from-accept, from-early}
use Rattle.graph_rules.proofs.Taken.{taken-long, taken-few, taken-root, taken-target}
use Rattle.lists.proofs.Bools.{Is, is, yes-is, no-is}
use Rattle.graph_rules.specs.Layout.{step_count, no_state, most_states, row_words, marks_place, graph_place, no_leaf, accept_in, early_in}

-- what a number that is not the word for none has
pub within : (o : Option ℕ) (P : ℕ → Type 0) (none-word x : ℕ) → o ≡ or_none none-word x → ((x ≡ none-word → ⊥) → P x) → IfSome o P
within o P n x q f = rw q (go (is (eqb x n)))
  where
    go : Is (eqb x n) → IfSome (or_none n x) P
    go (yes-is e) = rw e tt
    go (no-is e) = rw e (f (eqb-false x n e))

module _ (w : List ℕ) (taken : graph_fits w ≡ true) where
  pub in-row : (s c : ℕ) → s < get_or w 0 0 → c < row_words → graph_place s c < length w
  in-row s c h b = omega (arith, taken-long w taken)

  pub root-few : get_or w 1 0 < most_states
  root-few = ⊎_elim (λ h. omega (arith, taken-few w taken)) (λ h. omega arith) (taken-root w taken)

  module _ (s c u : ℕ) (o : Option ℕ) (h : s < get_or w 0 0) (b : c < step_count) (e : u ≡ get_or w (graph_place s c) 0) (q : o ≡ or_none no_state u) where
    pub target-of : o ≡ to (graph_from w) s c
    target-of = q ∙ ap (or_none no_state) e ∙ sym (from-to w (taken-long w taken) s h c b)

    pub target-below : IfSome o (λ u. u < get_or w 0 0)
    target-below =
        within o (λ u. u < get_or w 0 0) no_state u q (λ z. ⊎_elim (λ l. omega arith) (λ l. absurd (z (e ∙ l))) (taken-target w taken s c h b))

  module _ (s l : ℕ) (o : Option ℕ) (h : s < get_or w 0 0) (q : o ≡ or_none no_leaf l) where
    pub accept-of : l ≡ accept_in (get_or w (graph_place s marks_place) 0) → o ≡ accept_of (graph_from w) s
    accept-of e = q ∙ ap (or_none no_leaf) e ∙ sym (from-accept w (taken-long w taken) s h)

    pub early-of : l ≡ early_in (get_or w (graph_place s marks_place) 0) → o ≡ early_of (graph_from w) s
    early-of e = q ∙ ap (or_none no_leaf) e ∙ sym (from-early w (taken-long w taken) s h)

    pub leaf-below : l < 256 → IfSome o (λ l. l < no_leaf)
    leaf-below b = within o (λ l. l < no_leaf) no_leaf l q (λ z. omega (arith, z))
