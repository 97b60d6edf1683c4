-- A list that gets the values of a function, one after another from the front. Assumes nothing.
use borrow.Author.Count.{below_more}
use mathlib.Core.Path.{◌≡◌, sym, ◌∙◌}
use mathlib.Core.List.{List}
use Prim.Native.Nat.{ℕ, ◌+◌, ◌≤◌, ◌<◌}
use native.Mathlib.Omega.{arith}
use lib.ListN.{length, get_or, set, length-set}
use lib.Seq.{get_or-set_same, get_or-set_other, ext_get_or}
use Rattle.lists.specs.Lists.{tab}
use Rattle.lists.proofs.Elements.{length-tab, get_or-tab0}

module _ {A : Type 0} (d : A) (n : ℕ) (f : ℕ → A) where
  -- a list of n elements, of which the first k are the values of f
  pub record Tabled (out : List A) (k : ℕ) : Type 0 where
    pub few : k ≤ n
    pub long : length out ≡ n
    pub first : (i : ℕ) → i < k → get_or out i d ≡ f i

  pub tabled-none : (out : List A) → length out ≡ n → Tabled out 0
  tabled-none out l = record { few = omega arith; long = l; first = λ i h. absurd (omega arith) }

  pub tabled-one : {out : List A} {k : ℕ} (x : A) → Tabled out k → k < n → x ≡ f k → Tabled (set out k x) (k + 1)
  tabled-one {out} {k} x t h e =
      let l = t.long in
      record {
        few = omega arith;
        long = length-set out k x ∙ t.long;
        first = below_more (λ i. get_or (set out k x) i d ≡ f i) k
            (λ i b. get_or-set_other out k i x d (λ e. omega arith) ∙ t.first i b)
            (get_or-set_same out k x d (omega arith) ∙ e);
      }

  pub tabled-all : {out : List A} {k : ℕ} → Tabled out k → n ≤ k → out ≡ tab 0 n f
  tabled-all {out} t h =
      let l = t.long in
      ext_get_or d out (tab 0 n f) (t.long ∙ sym (length-tab 0 n f)) (λ i b. t.first i (omega arith) ∙ sym (get_or-tab0 n f i d (omega arith)))
