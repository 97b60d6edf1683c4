-- The value of a record, by what it is: one law for each way through the code. Assumes nothing.
use Rattle.std.specs.Prelude.{Option, Some, None, SomeIff}
use mathlib.Core.Path.{◌≡◌, sym, ap, ◌∙◌}
use mathlib.Core.Bool.{Bool}
use mathlib.Core.Logic.{◌⊎◌, ⊎_elim}
use Prim.Native.Nat.{ℕ, ◌*◌, ◌<◌, ◌^◌}
use Rattle.trees.specs.Tree.{Tree, empty, class, look, repetition}
use Rattle.trees.specs.Nodes.{tree_of_shape}
use Rattle.trees.specs.declared.nodes.Shape.{Shape}
use Rattle.trees.specs.declared.nodes.Shape.TheVariants as shape
use Rattle.pattern.specs.Priority.{priority}
use Rattle.pattern.specs.Priced.{passes, priced, times}
use Rattle.pattern.proofs.PricedLaws.{priced-repetition}
use Rattle.pattern.proofs.Chains.{checked}

module _ (t : Tree) where
  of-empty : empty ≡ t → Some 0 ≡ priced t
  unfolding priced passes priority
  of-empty e = ap {B = Option ℕ} priced e

  of-look : look ≡ t → Some 0 ≡ priced t
  unfolding priced passes priority
  of-look e = ap {B = Option ℕ} priced e

  pub of-nothing : (s : Shape) → tree_of_shape s ≡ t → (s ≡ shape.Empty) ⊎ (s ≡ shape.Look) → Some 0 ≡ priced t
  of-nothing s e w = ⊎_elim (λ q. of-empty (rw q at e)) (λ q. of-look (rw q at e)) w

  pub of-class : (dot : Bool) → class dot ≡ t → Some 2 ≡ priced t
  unfolding priced passes priority
  of-class dot e = ap {B = Option ℕ} priced e

  module _ (m : ℕ) (greedy unbounded : Bool) (inner : Tree) (e : repetition m greedy unbounded inner ≡ t) where
    its : (o : Option ℕ) → o ≡ priced inner → times m o ≡ priced t
    its o eo = ap {B = Option ℕ} (times m) eo ∙ sym (priced-repetition m greedy unbounded inner) ∙ ap {B = Option ℕ} priced e

    pub of-none : None ≡ priced inner → None ≡ priced t
    of-none eo = its None eo

    pub of-product : (v : ℕ) → Some v ≡ priced inner → (o : Option ℕ) → SomeIff o (m * v < 2 ^ 32) (m * v) → o ≡ priced t
    of-product v eo o p = checked o (m * v) p ∙ its (Some v) eo
