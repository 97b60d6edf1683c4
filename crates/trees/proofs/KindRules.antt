-- The eight kinds: a proof by them, and their rules as the code tests them. Assumes nothing.
use mathlib.Core.Path.{◌≡◌, refl, ◌∙◌}
use mathlib.Core.Bool.{cond}
use Prim.Native.Nat.{ℕ, zero, suc, ◌≤◌, ◌<◌}
use native.Mathlib.Omega.{arith}
use lib.Dec.{ltb}
use borrow.Author.Tests.{lt-ltb, le-ltb}
use Rattle.trees.specs.Layout.{empty_kind, literal_kind, class_kind, look_kind, repetition_kind, capture_kind, concat_kind, alternation_kind, kind_count}
use Rattle.trees.specs.Tree.{rules, rule_of}
use Rattle.trees.specs.declared.kind.Children.TheVariants.{No, One, Any}
use Rattle.trees.specs.declared.kind.Kind.{Kind}
use Rattle.trees.specs.declared.kind.Kind.TheVariants.{Empty, Literal, Class, Look, Repetition, Capture, Concat, Alternation}
use Rattle.trees.specs.Held.{kind_number}

pub by_kind : (P : ℕ → Type 0) → P empty_kind → P literal_kind → P class_kind → P look_kind → P repetition_kind → P capture_kind → P concat_kind → P alternation_kind → (k : ℕ) → k < kind_count → P k
by_kind P p0 p1 p2 p3 p4 p5 p6 p7 zero h = p0
by_kind P p0 p1 p2 p3 p4 p5 p6 p7 (suc zero) h = p1
by_kind P p0 p1 p2 p3 p4 p5 p6 p7 (suc (suc zero)) h = p2
by_kind P p0 p1 p2 p3 p4 p5 p6 p7 (suc (suc (suc zero))) h = p3
by_kind P p0 p1 p2 p3 p4 p5 p6 p7 (suc (suc (suc (suc zero)))) h = p4
by_kind P p0 p1 p2 p3 p4 p5 p6 p7 (suc (suc (suc (suc (suc zero))))) h = p5
by_kind P p0 p1 p2 p3 p4 p5 p6 p7 (suc (suc (suc (suc (suc (suc zero)))))) h = p6
by_kind P p0 p1 p2 p3 p4 p5 p6 p7 (suc (suc (suc (suc (suc (suc (suc zero))))))) h = p7
by_kind P p0 p1 p2 p3 p4 p5 p6 p7 (suc (suc (suc (suc (suc (suc (suc (suc k)))))))) h = absurd (omega arith)

-- ---- the rules

module _ (k : ℕ) (h : k < kind_count) where
  rule-children : (rule_of k).children ≡ cond (ltb k repetition_kind) No (cond (ltb k concat_kind) One Any)
  unfolding rule_of rules
  rule-children = by_kind (λ k. (rule_of k).children ≡ cond (ltb k repetition_kind) No (cond (ltb k concat_kind) One Any)) refl refl refl refl refl refl refl refl k h

  pub no-child : k < repetition_kind → (rule_of k).children ≡ No
  no-child u = rule-children ∙ simp (lt-ltb k repetition_kind u)

  pub one-child : repetition_kind ≤ k → k < concat_kind → (rule_of k).children ≡ One
  one-child l u = rule-children ∙ simp (le-ltb k repetition_kind l, lt-ltb k concat_kind u)

-- ---- a kind that is decoded

pub kind-below : (kind : Kind) → kind_number kind < kind_count
kind-below Empty = omega arith
kind-below Literal = omega arith
kind-below Class = omega arith
kind-below Look = omega arith
kind-below Repetition = omega arith
kind-below Capture = omega arith
kind-below Concat = omega arith
kind-below Alternation = omega arith
