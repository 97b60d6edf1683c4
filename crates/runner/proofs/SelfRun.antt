-- The bytes that a self run passes, and that the run by a plan passes them too. Assumes nothing.
use mathlib.Core.Path.{◌≡◌, ap, ◌∙◌}
use mathlib.Core.Bool.{Bool, true, false}
use mathlib.Core.List.{List, []}
use Prim.Native.Nat.{ℕ, zero, suc, ◌+◌, ◌-◌, ◌≤◌, ◌<◌}
use native.Mathlib.Omega.{arith}
use lib.ListN.{length, get_or, drop}
use lib.Seq.{drop-cons}
use Rattle.graph_rules.specs.Graph.{Graph}
use Rattle.graph_rules.specs.Read.{Reading}
use Rattle.std.specs.Prelude.{Option, Some, None, unwrap_or, MatchOption}
use Rattle.plan_rules.specs.Plan.{own_said}
use Rattle.plan_rules.specs.Run.{self_of, self_takes, run_from}

-- where the search for a byte that does not pass stands: at the first, or at the end
pub stood : (p : ℕ → Bool) (from n : ℕ) (r : Option ℕ)
    → MatchOption r ((k : ℕ) → from ≤ k → k < n → p k ≡ true) (λ k. (from ≤ k) × (k < n) × (p k ≡ false) × ((j : ℕ) → from ≤ j → j < k → p j ≡ true))
    → ((j : ℕ) → j < unwrap_or r n → from ≤ j → p j ≡ true) × (unwrap_or r n < n → p (unwrap_or r n) ≡ false)
stood p from n None f = (λ j h l. f j l h, λ h. absurd (omega arith))
stood p from n (Some k) (l, h, e, f) = (λ j h l. f j l h, λ z. e)

-- what a self word says
pub own-mask : (w : ℕ) {i : ℕ} → Some i ≡ own_said w → w ≡ suc i
own-mask zero e = cc
own-mask (suc k) e = cc

-- bytes that the self word takes are passed by the run, which stays where it is
module _ (g : Graph) (rows : List (List ℕ)) (tables text : List ℕ) (s w : ℕ) (word : self_of (get_or rows s []) ≡ w) where
  abbrev rest : ℕ → Reading → Reading
  rest k q = run_from g rows tables s k q (drop k text)

  passes-one : (k : ℕ) (q : Reading) → k < length text → self_takes tables w (get_or text k 0) ≡ true
      → rest k q ≡ rest (suc k) q
  passes-one k q h t =
      let e : self_takes tables (self_of (get_or rows s [])) (get_or text k 0) ≡ true = ap (λ (x : ℕ). self_takes tables x (get_or text k 0)) word ∙ t in
      rw (drop-cons text k 0 h, e, run_from)

  passes : (n k : ℕ) (q : Reading) → k + n ≤ length text → ((j : ℕ) → j < k + n → k ≤ j → self_takes tables w (get_or text j 0) ≡ true)
      → rest k q ≡ rest (k + n) q
  passes zero k q h f = let e : k ≡ k + 0 = omega arith in ap (λ (x : ℕ). rest x q) e
  passes (suc n) k q h f =
      let e : suc k + n ≡ k + suc n = omega arith in
      passes-one k q (omega arith) (f k (omega arith) (omega arith))
      ∙ passes n (suc k) q (omega arith) (λ j l m. f j (omega arith) (omega arith))
      ∙ ap (λ (x : ℕ). rest x q) e

  pub self-passes : (k r : ℕ) (q : Reading) → k ≤ r → r ≤ length text → ((j : ℕ) → j < r → k ≤ j → self_takes tables w (get_or text j 0) ≡ true)
      → run_from g rows tables s k q (drop k text) ≡ run_from g rows tables s r q (drop r text)
  self-passes k r q l h f =
      let e : k + (r - k) ≡ r = omega arith in
      passes (r - k) k q (omega arith) (λ j m n. f j (omega arith) n) ∙ ap (λ (x : ℕ). rest x q) e
