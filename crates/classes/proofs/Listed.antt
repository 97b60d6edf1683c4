-- The exceptions of a comparison, as a slice is asked for a byte. Assumes nothing.
use Rattle.std.specs.List.{list_any}
use lib.Dec.{eqb}
use mathlib.Core.Path.{◌≡◌, refl, sym, ◌∙◌}
use mathlib.Core.List.{List, [], ◌∷◌}
use Prim.Native.Nat.{ℕ}
use borrow.Author.Tests.{eqb-true, eqb-false, eq-eqb, ne_eqb}
use Rattle.lists.proofs.Bools.{Is, yes-is, no-is, is}
use Rattle.classes.specs.Classes.{excepted}

eqb-sym : (a b : ℕ) → eqb a b ≡ eqb b a
eqb-sym a b = go (is (eqb a b))
  where
    go : Is (eqb a b) → eqb a b ≡ eqb b a
    go (yes-is e) = e ∙ sym (eq-eqb b a (sym (eqb-true a b e)))
    go (no-is n) = n ∙ sym (ne_eqb b a (λ e. eqb-false a b n (sym e)))

pub excepted-any : (xs : List ℕ) (b : ℕ) → excepted xs b ≡ list_any (λ x. eqb x b) xs
excepted-any [] b = refl
excepted-any (x ∷ xs) b = rw (eqb-sym b x, excepted-any xs b)
