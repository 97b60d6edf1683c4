-- The leaf that all of a list have (`agreed`): from each to all, from all to each, and where two differ. Assumes nothing.
use Rattle.std.specs.Prelude.{Option, Some, None}
use mathlib.Core.Path.{◌≡◌, refl, sym, ap, ◌∙◌}
use mathlib.Core.Bool.{cond}
use mathlib.Core.List.{List, [], ◌∷◌}
use Prim.Native.Nat.{ℕ, zero, suc, ◌<◌, suc-le-suc}
use native.Mathlib.Nat.{not-suc-le-zero, le_of_suc-le-suc}
use native.Mathlib.Omega.{arith}
use lib.ListN.{length, get_or}
use Rattle.lists.specs.Lists.{all_l, eq_option}
use Rattle.lists.proofs.Bools.{Is, is, yes-is, no-is, none-some}
use Rattle.lists.proofs.Elements.{all-intro, all-at, option-sound}
use Rattle.graph_rules.specs.Build.{agreed}

-- all have the leaf agreed on
pub agreed-at : (l : List (Option ℕ)) (x : ℕ) → agreed l ≡ Some x → (i : ℕ) → i < length l → get_or l i None ≡ Some x
agreed-at [] x e i h = absurd (none-some e)
agreed-at (o ∷ l) x e i h = go (is (all_l (eq_option o) l)) i h
  where
    go : Is (all_l (eq_option o) l) → (i : ℕ) → i < length (o ∷ l) → get_or (o ∷ l) i None ≡ Some x
    go (yes-is q) zero h = rw q at e
    go (yes-is q) (suc i) h =
        sym (option-sound.eq o (get_or l i None) (all-at (eq_option o) l i None q (le_of_suc-le-suc h))) ∙ (rw q at e)
    go (no-is q) i h = absurd (none-some (rw q at e))

pub agreed-all : (l : List (Option ℕ)) (x : Option ℕ) → 0 < length l → ((i : ℕ) → i < length l → get_or l i None ≡ x) → agreed l ≡ x
agreed-all [] x h f = absurd (not-suc-le-zero h)
agreed-all (o ∷ l) x h f =
    let e : o ≡ x = f 0 (omega arith) in
    rw (all-intro (eq_option o) l None (λ i b. ap (eq_option o) (f (suc i) (suc-le-suc b) ∙ sym e) ∙ option-sound.self o)) e

pub agreed-none : (l : List (Option ℕ)) (i : ℕ) → i < length l → (get_or l i None ≡ get_or l 0 None → ⊥) → agreed l ≡ None
agreed-none [] i h n = refl
agreed-none (o ∷ l) zero h n = absurd (n refl)
agreed-none (o ∷ l) (suc i) h n = go (is (all_l (eq_option o) l))
  where
    go : Is (all_l (eq_option o) l) → cond (all_l (eq_option o) l) o None ≡ None
    go (yes-is q) = absurd (n (sym (option-sound.eq o (get_or l i None) (all-at (eq_option o) l i None q (le_of_suc-le-suc h)))))
    go (no-is q) = rw q
