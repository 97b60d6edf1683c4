-- Some element of a list passes a test: from its index, back to an index, and one element more. Assumes nothing.
use Rattle.std.specs.Prelude.{Option, Some, None}
use mathlib.Core.Path.{◌≡◌, sym, ap, ◌∙◌}
use mathlib.Core.Bool.{Bool, true, false≢true, ◌||◌}
use mathlib.Core.List.{List, [], ◌∷◌, ◌++◌}
use mathlib.Core.Logic.{⊎_elim}
use Prim.Native.Nat.{ℕ, zero, suc, ◌<◌, zero-le, suc-le-suc}
use native.Mathlib.Nat.{not-suc-le-zero, le_of_suc-le-suc}
use lib.ListN.{length, get_or}
use Rattle.lists.specs.Lists.{any_l, eq_option}
use Rattle.lists.proofs.Bools.{or_assoc, or_cases, or-false, or_left, or_right, none-some}
use Rattle.lists.proofs.Elements.{option-sound}

module _ {A : Type 0} (p : A → Bool) (d : A) where
  pub any_at : (l : List A) (i : ℕ) → i < length l → p (get_or l i d) ≡ true → any_l p l ≡ true
  any_at [] i h e = absurd (not-suc-le-zero h)
  any_at (x ∷ l) zero h e = or_left (p x) (any_l p l) e
  any_at (x ∷ l) (suc i) h e = or_right (p x) (any_l p l) (any_at l i (le_of_suc-le-suc h) e)

  pub any_found : (l : List A) → any_l p l ≡ true → (i : ℕ) × (i < length l) × (p (get_or l i d) ≡ true)
  any_found [] e = absurd (false≢true e)
  any_found (x ∷ l) e =
      ⊎_elim
      (λ q. (0, suc-le-suc zero-le, q))
      (λ q. let (i, h, f) = any_found l q in (suc i, suc-le-suc h, f))
      (or_cases (p x) (any_l p l) e)

pub any_snoc : {A : Type 0} (p : A → Bool) (l : List A) (x : A) → any_l p (l ++ (x ∷ [])) ≡ (any_l p l || p x)
any_snoc p [] x = or-false (p x)
any_snoc p (y ∷ l) x = ap (λ (b : Bool). p y || b) (any_snoc p l x) ∙ sym (or_assoc (p y) (any_l p l) (p x))

-- ---- a number among options

pub option-any : (l : List (Option ℕ)) (c u : ℕ) → get_or l c None ≡ Some u → any_l (eq_option (Some u)) l ≡ true
option-any [] c u e = absurd (none-some e)
option-any (o ∷ l) zero u e = or_left _ _ (ap (eq_option (Some u)) e ∙ option-sound.self (Some u))
option-any (o ∷ l) (suc c) u e = or_right (eq_option (Some u) o) _ (option-any l c u e)

pub any-option : (l : List (Option ℕ)) (u : ℕ) → any_l (eq_option (Some u)) l ≡ true → (c : ℕ) × (get_or l c None ≡ Some u)
any-option l u h = let (c, b, e) = any_found (eq_option (Some u)) None l h in (c, sym (option-sound.eq (Some u) (get_or l c None) e))
