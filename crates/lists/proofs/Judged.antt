-- A test of every element of a list, told by what holds at each index: what a loop shows that goes over the indices, and what its answer means.
-- Assumes nothing.
use mathlib.Core.Path.{◌≡◌, ap, sym, ◌∙◌}
use mathlib.Core.Bool.{Bool, true, false}
use mathlib.Core.List.{List}
use Prim.Native.Nat.{ℕ, ◌<◌}
use lib.ListN.{length, get_or}
use Rattle.lists.specs.Lists.{all_l, below}
use Rattle.lists.proofs.Bools.{Is, is, yes-is, no-is}
use Rattle.lists.proofs.Elements.{all-at, all-intro, length-tab, get_or-tab0}

-- b is true just if every number below k has the property
pub record Judged (b : Bool) (k : ℕ) (P : ℕ → Type 0) : Type 0 where
  pub all : ((i : ℕ) → i < k → P i) → b ≡ true
  pub each : b ≡ true → (i : ℕ) → i < k → P i

pub judged-false : {b : Bool} {k : ℕ} {P : ℕ → Type 0} → Judged b k P → (i : ℕ) → i < k → (P i → ⊥) → b ≡ false
judged-false {b} j i h n = go (is b)
  where
    go : Is b → b ≡ false
    go (yes-is e) = absurd (n (j.each e i h))
    go (no-is e) = e

module _ {A : Type 0} (p : A → Bool) (P : ℕ → Type 0) where
  -- a test of every element, each element's test being told by its index
  pub all-judged : (l : List A) (d : A) (k : ℕ) → length l ≡ k
      → ((i : ℕ) → i < k → P i → p (get_or l i d) ≡ true) → ((i : ℕ) → i < k → p (get_or l i d) ≡ true → P i) → Judged (all_l p l) k P
  all-judged l d k len shown only =
      record {
        all = λ f. all-intro p l d (λ i h. let h' : i < k = rw len at h in shown i h' (f i h'));
        each = λ a i h. only i h (all-at p l i d a (rw len h));
      }

-- a test of every number below k
pub below-judged : (p : ℕ → Bool) (P : ℕ → Type 0) (k : ℕ)
    → ((i : ℕ) → i < k → P i → p i ≡ true) → ((i : ℕ) → i < k → p i ≡ true → P i) → Judged (all_l p (below k)) k P
below-judged p P k shown only =
    all-judged p P (below k) 0 k (length-tab 0 k (λ x. x)) (λ i h q. at i h ∙ shown i h q) (λ i h e. only i h (sym (at i h) ∙ e))
  where
    at : (i : ℕ) → i < k → p (get_or (below k) i 0) ≡ p i
    at i h = ap p (get_or-tab0 k (λ x. x) i 0 h)
