-- A set's members numbered from the front: what the loop that numbers them keeps. Assumes nothing.
use Rattle.std.specs.Prelude.{Option, Some, None}
use mathlib.Core.Path.{◌≡◌, refl, sym, ap, ◌∙◌}
use mathlib.Core.Bool.{Bool, false}
use mathlib.Core.List.{List}
use Prim.Native.Nat.{ℕ, ◌+◌, ◌≤◌, ◌<◌}
use native.Mathlib.Nat.{not-suc-le-zero}
use native.Mathlib.Omega.{arith}
use borrow.Author.Count.{below_more}
use lib.ListN.{length, get_or, set, take, replicate, length-set, length-replicate}
use lib.Seq.{ext_get_or, get_or-set_same, get_or-set_other}
use Rattle.lists.specs.Lists.{number_from}
use Rattle.lists.specs.Sets.{In, count}
use Rattle.lists.proofs.Numbering.{number-count}
use Rattle.lists.proofs.Numbers.{number-length, number-none, count-few}
use Rattle.lists.proofs.Padding.{replicate-at}
use Rattle.lists.proofs.Worklist.{count-take-in, count-take-out}
use Rattle.graph_rules.specs.Layout.{most_states}

-- the numbers below s have been passed, k of them are members

pub record Numbered (keep : List Bool) (s k : ℕ) (out : List (Option ℕ)) : Type 0 where
  pub len : length out ≡ most_states
  pub size : k ≡ count (take s keep)
  pub done : (i : ℕ) → i < s → get_or out i None ≡ get_or (number_from 0 keep) i None
  pub left : (i : ℕ) → s ≤ i → get_or out i None ≡ None

module _ (keep : List Bool) where
  pub numbered-none : Numbered keep 0 0 (replicate most_states None)
  numbered-none =
      record { len = length-replicate {A = Option ℕ} most_states None; size = refl; done = λ i h. absurd (not-suc-le-zero h); left = λ i h. replicate-at None most_states i }

  module _ (s k : ℕ) (out : List (Option ℕ)) (v : Numbered keep s k out) where
    pub numbered-low : k ≤ s
    numbered-low = let e = v.size in omega (arith, count-few keep s)

    pub numbered-in : s < most_states → In keep s → Numbered keep (s + 1) (k + 1) (set out s (Some k))
    numbered-in h i =
        let e = v.len in
        let low = numbered-low in
        record {
          len = length-set out s (Some k) ∙ v.len;
          size = ap (λ (x : ℕ). x + 1) v.size ∙ sym (count-take-in keep s i);
          done = below_more _ s
              (λ j l. get_or-set_other out s j (Some k) None (λ q. let z : j ≡ s = q in omega arith) ∙ v.done j l)
              (get_or-set_same out s (Some k) None (omega arith)
              ∙ ap {B = Option ℕ} Some (v.size ∙ let z : count (take s keep) ≡ 0 + count (take s keep) = omega arith in z) ∙ sym (number-count 0 keep s i));
          left = λ j l. get_or-set_other out s j (Some k) None (λ q. let z : j ≡ s = q in omega arith) ∙ v.left j (omega arith);
        }

    pub numbered-out : get_or keep s false ≡ false → Numbered keep (s + 1) k out
    numbered-out e =
        record {
          len = v.len;
          size = v.size ∙ sym (count-take-out keep s e);
          done = below_more _ s v.done (v.left s (omega arith) ∙ sym (number-none 0 keep s e));
          left = λ j l. v.left j (omega arith);
        }

  pub numbered-all : (k : ℕ) (out : List (Option ℕ)) → length keep ≡ most_states → Numbered keep most_states k out → out ≡ number_from 0 keep
  numbered-all k out size v =
      let b = v.len in
      let c = number-length 0 keep in
      ext_get_or None out (number_from 0 keep) (omega arith) (λ i h. v.done i (omega arith))
