-- A part that passes the end of a list is none; so is one whose place is held back at a number that no list is as long as. Assumes nothing.
use borrow.Author.Tests.{leb-true, leb-false, lt-leb}
use Rattle.std.proofs.Common.{◌≡◌, refl, sym, ap, ◌∙◌, Bool, true, false, List, [], ℕ, ◌+◌, ◌≤◌, ◌<◌, min, arith, length}
use lib.Dec.{leb}
use lib.ListN.{get_or-eq_default}
use Rattle.vectors.specs.Reading.{byte_at, part_at}

module _ {A : Type 0} (list : List A) (at n : ℕ) where
  pub part_capped : (top : ℕ) → length list < top → part_at list (min at top) n ≡ part_at list at n
  part_capped top short = held (leb at top) refl
    where
      held : (b : Bool) → leb at top ≡ b → part_at list (min at top) n ≡ part_at list at n
      held true e = ap (λ (k : ℕ). part_at list k n) (omega (arith, leb-true at top e))
      held false e = sym (lt-none (min at top) (omega (arith, leb-false at top e))) ∙ lt-none at (omega (arith, leb-false at top e))
        where
          lt-none : (k : ℕ) → length list < k + n → [] ≡ part_at list k n
          lt-none k h = simp (lt-leb _ _ h)

module _ (list : List ℕ) (at : ℕ) where
  pub byte_capped : (top : ℕ) → length list ≤ top → byte_at list (min at top) ≡ byte_at list at
  byte_capped top short = held (leb at top) refl
    where
      held : (b : Bool) → leb at top ≡ b → byte_at list (min at top) ≡ byte_at list at
      held true e = ap (byte_at list) (omega (arith, leb-true at top e))
      held false e =
          get_or-eq_default list 0 (omega (arith, leb-false at top e)) ∙ sym (get_or-eq_default list 0 (omega (arith, leb-false at top e)))
