-- `==` and `!=` of numbers that may be none, as code tests them. Assumes nothing.
use Rattle.std.specs.Prelude.{Option, Some, None, Bool, true, false, not, eqb, ℕ}
use Rattle.std.specs.Option.{option_eq}
use mathlib.Core.Path.{◌≡◌, refl, sym, subst, ◌∙◌}
use mathlib.Core.Bool.{false≢true}
use borrow.Author.Tests.{not-true, not-false}
use Rattle.lists.specs.Lists.{eq_option}
use Rattle.lists.proofs.Elements.{option-sound}

pub option-test : (a b : Option ℕ) → option_eq eqb a b ≡ eq_option a b
option-test None None = refl
option-test None (Some y) = refl
option-test (Some x) None = refl
option-test (Some x) (Some y) = refl

-- the test's answer r, and what the code has found of it

pub options-differ : (a b : Option ℕ) (r : Bool) → r ≡ not (option_eq eqb a b) → r ≡ true → a ≡ b → ⊥
options-differ a b r e t q =
    let f : eq_option a b ≡ false = sym (option-test a b) ∙ not-true _ (sym e ∙ t) in
    false≢true (sym f ∙ subst (λ x. eq_option a x ≡ true) q (option-sound.self a))

pub options-same : (a b : Option ℕ) (r : Bool) → r ≡ not (option_eq eqb a b) → r ≡ false → a ≡ b
options-same a b r e f = option-sound.eq a b (sym (option-test a b) ∙ not-false _ (sym e ∙ f))

-- the same where the code has asked `==`

pub options-eq : (a b : Option ℕ) → true ≡ option_eq eqb a b → a ≡ b
options-eq a b e = option-sound.eq a b (sym (option-test a b) ∙ sym e)

pub options-ne : (a b : Option ℕ) → false ≡ option_eq eqb a b → a ≡ b → ⊥
options-ne a b e q = false≢true (e ∙ option-test a b ∙ subst (λ x. eq_option a x ≡ true) q (option-sound.self a))
