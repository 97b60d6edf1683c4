-- A word that stands for a number, or for none. Assumes nothing.
use Rattle.std.specs.Prelude.{unwrap_or, Option, Some, None}
use mathlib.Core.Path.{◌≡◌, sym, ap, ◌∙◌}
use Prim.Native.Nat.{ℕ}
use borrow.Author.Tests.{eqb-true, eq-eqb, ne_eqb}
use lib.Dec.{eqb}
use Rattle.lists.proofs.Bools.{Is, is, yes-is, no-is, none-some}
use Rattle.graph_rules.specs.Graph.{or_none}

module _ (none-word x : ℕ) where
  pub or_word : unwrap_or (or_none none-word x) none-word ≡ x
  or_word = go (is (eqb x none-word))
    where
      go : Is (eqb x none-word) → unwrap_or (or_none none-word x) none-word ≡ x
      go (yes-is q) = rw q (sym (eqb-true x none-word q))
      go (no-is q) = rw q

  pub or-none : x ≡ none-word → or_none none-word x ≡ None
  or-none e = rw (eq-eqb x none-word e)

  pub or-number : (x ≡ none-word → ⊥) → or_none none-word x ≡ Some x
  or-number n = rw (ne_eqb x none-word n)

  -- a number is not the word for none
  pub or_some : (u : ℕ) → or_none none-word x ≡ Some u → (x ≡ u) × (x ≡ none-word → ⊥)
  or_some u e = (sym or_word ∙ ap (λ (o : Option ℕ). unwrap_or o none-word) e, λ q. none-some (sym (or-none q) ∙ e))

pub or_same : (none-word x y : ℕ) → or_none none-word x ≡ or_none none-word y → x ≡ y
or_same n x y e = sym (or_word n x) ∙ ap (λ (o : Option ℕ). unwrap_or o n) e ∙ or_word n y
