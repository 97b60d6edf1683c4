-- The lowest state of a set that passes a test: the first that is found from state 0 on. Assumes nothing.
use Rattle.std.specs.Prelude.{Option, Some, None, MatchOption}
use mathlib.Core.Path.{◌≡◌, refl, sym, ap, ◌∙◌}
use mathlib.Core.Bool.{Bool, true, false, ◌&&◌}
use mathlib.Core.List.{List, ◌++◌}
use Prim.Native.Nat.{ℕ, zero, suc, ◌≤◌, ◌<◌, zero-le}
use native.Mathlib.Omega.{arith}
use lib.ListN.{length, get_or, replicate}
use lib.Seq.{take_at}
use Rattle.lists.specs.Lists.{below, those, select}
use Rattle.lists.proofs.Elements.{length-tab}
use Rattle.lists.proofs.Selecting.{select-whole}
use Rattle.lists.proofs.Chosen.{chosen_on, chosen-end, chosen-all, chosen-pass, chosen_more}
use Rattle.graph_rules.specs.Clean.{first}
use Rattle.clean.specs.Held.{lowest_in}

module _ (w : List ℕ) (set : List Bool) (p : ℕ → Bool) where
  abbrev passes : ℕ → Bool
  passes s = get_or set s false && p s

  abbrev on : ℕ → List ℕ
  on = chosen_on (get_or w 0 0) set p

  passed : (s : ℕ) → s ≤ get_or w 0 0 → ((k : ℕ) → 0 ≤ k → k < s → passes k ≡ false) → on 0 ≡ on s
  passed zero h f = refl
  passed (suc s) h f = passed s (omega arith) (λ k a b. f k a (omega arith)) ∙ chosen-pass (get_or w 0 0) set p s h (f s zero-le (omega arith))

  pub lowest-found : (n : ℕ) → n ≡ get_or w 0 0 → (r : Option ℕ)
      → MatchOption r ((k : ℕ) → 0 ≤ k → k < n → passes k ≡ false) (λ s. (0 ≤ s) × (s < n) × (passes s ≡ true) × ((k : ℕ) → 0 ≤ k → k < s → passes k ≡ false))
      → r ≡ lowest_in w set p
  lowest-found n e None f =
      sym (ap first (sym (chosen-all (get_or w 0 0) set p) ∙ passed (get_or w 0 0) (omega arith) (λ k a b. f k a (omega arith)) ∙ chosen-end (get_or w 0 0) set p))
  lowest-found n e (Some s) (z, h, q, f) =
      sym (ap first (sym (chosen-all (get_or w 0 0) set p) ∙ passed s (omega arith) f ∙ chosen_more (get_or w 0 0) set p s (omega arith) q))

-- flags past the states mean nothing
pub lowest-padded : (w : List ℕ) (set : List Bool) (k : ℕ) (p : ℕ → Bool) → length set ≡ get_or w 0 0
    → lowest_in w (set ++ replicate k false) p ≡ first (those p (select set (below (get_or w 0 0))))
lowest-padded w set k p e =
    let n = get_or w 0 0 in
    let l = length-tab 0 n (λ i. i) in
    ap (λ (x : List ℕ). first (those p x))
    (sym (select-whole (set ++ replicate k false) (below n) n (omega arith)) ∙ ap (λ (x : List Bool). select x (below n)) (take_at set (replicate k false) n e))
