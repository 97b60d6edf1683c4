-- `all` over the numbers of a range, as code tests them one by one, by what is judged of each. Assumes nothing.
use Rattle.std.specs.Prelude.{Option, MatchOption}
use Rattle.std.specs.Bool.{MatchBool}
use Rattle.std.specs.Fn.{Called}
use Rattle.std.specs.Iterator.{YieldsThen}
use Rattle.std.specs.List.{range_with_len, filter, FoldsTo, AllWithin, HoldsAt}
use Rattle.std.specs.declared.ops.Range.{Range}
use Rattle.std.proofs.iter.Yields.{nat_range_steps}
use Rattle.std.proofs.lemmas.Iterator.{YieldsList-from_range, cases_from_all}
use Rattle.std.proofs.lemmas.List.FromFn.{length-range_with_len, get_or-range_with_len}
use denote.Param.Members.{Mut}
use mathlib.Core.Path.{◌≡◌, refl, sym, ap, subst, ◌∙◌}
use mathlib.Core.Bool.{Bool, true, false, false≢true}
use mathlib.Core.List.{List, [], ◌∷◌}
use Prim.Native.Nat.{ℕ, zero, suc, ◌-◌, ◌+◌, ◌≤◌, ◌<◌}
use native.Mathlib.Numerals.{add-one}
use native.Mathlib.Omega.{arith}
use lib.ListN.{length, get_or}
use Rattle.lists.specs.Lists.{tab, those}
use Rattle.lists.proofs.Bools.{Is, is, yes-is, no-is}
use Rattle.lists.proofs.Judged.{Judged, judged-false}

-- the answer of `all`, if it is true, told of every number of the range, and of one if it is false
pub all-told : {F : Type 0} {g : Mut F (ℕ × Unit {0}) Bool} {P N : ℕ → Type 0} (s u : Range ℕ) (f : F) (r : Bool)
    → (xs : List ℕ) × (o : Option ℕ) × (j : F) × YieldsThen nat_range_steps s xs o u × FoldsTo (λ p x q. Called g p (x, tt) true q) f xs j
    × MatchOption o (r ≡ true) (λ x. (r ≡ false) × ((h : F) × Called g j (x, tt) false h))
    → ((x : ℕ) (q : F) → Called g f (x, tt) true q → (q ≡ f) × P x) → ((x : ℕ) (q : F) → Called g f (x, tt) false q → N x)
    → (r ≡ true → (i : ℕ) → s.start ≤ i → i < s.end → P i) × (r ≡ false → (i : ℕ) × (s.start ≤ i) × (i < s.end) × N i)
all-told {P = P} {N} s u f r ran kept lost = go r (cases_from_all u f r P N ran (YieldsList-from_range s.start s.end _ refl refl) kept lost)
  where
    all : List ℕ
    all = range_with_len s.start (s.end - s.start)

    long : length all ≡ s.end - s.start
    long = length-range_with_len s.start (s.end - s.start)

    at : (k : ℕ) → k < s.end - s.start → get_or all k 0 ≡ s.start + k
    at k h = get_or-range_with_len s.start (s.end - s.start) k 0 h

    go : (r : Bool) → MatchBool r (AllWithin P all 0 (length all)) ((k : ℕ) × (k < length all) × HoldsAt N all k)
        → (r ≡ true → (i : ℕ) → s.start ≤ i → i < s.end → P i) × (r ≡ false → (i : ℕ) × (s.start ≤ i) × (i < s.end) × N i)
    go true h = (
      (λ e i l m. subst P (at (i - s.start) (omega arith) ∙ omega arith) (h (i - s.start) 0 (omega arith) (omega (arith, long)))),
      (λ e. absurd (false≢true (sym e))),
    )
    go false h = (
      (λ e. absurd (false≢true e)),
      (λ e. let m : h.0 < s.end - s.start = omega (arith, long, h.1) in (s.start + h.0, omega arith, omega arith, subst N (at h.0 m) (h.2 0))),
    )

pub all-judged_by : {F : Type 0} {g : Mut F (ℕ × Unit {0}) Bool} {b : Bool} {n : ℕ} {P : ℕ → Type 0} (s u : Range ℕ) (f : F) (r : Bool)
    → Judged b n P → s.start ≡ 0 → s.end ≡ n
    → (xs : List ℕ) × (o : Option ℕ) × (j : F) × YieldsThen nat_range_steps s xs o u × FoldsTo (λ p x q. Called g p (x, tt) true q) f xs j
    × MatchOption o (r ≡ true) (λ x. (r ≡ false) × ((h : F) × Called g j (x, tt) false h))
    → ((x : ℕ) (q : F) → Called g f (x, tt) true q → (q ≡ f) × P x) → ((x : ℕ) (q : F) → Called g f (x, tt) false q → P x → ⊥) → r ≡ b
all-judged_by {b = b} {P = P} s u f r j z e ran kept lost = go (is r)
  where
    told : (r ≡ true → (i : ℕ) → s.start ≤ i → i < s.end → P i) × (r ≡ false → (i : ℕ) × (s.start ≤ i) × (i < s.end) × (P i → ⊥))
    told = all-told {P = P} {N = λ x. P x → ⊥} s u f r ran kept lost

    go : Is r → r ≡ b
    go (yes-is y) = y ∙ sym (j.all (λ i l. told.0 y i (omega (arith, z)) (omega (arith, l, e))))
    go (no-is y) = let (i, l, m, n) = told.1 y in y ∙ sym (judged-false j i (omega (arith, m, e)) n)

-- ---- the numbers of a range, and those that a filter keeps, by the names of these crates

pub range-tab : (a n : ℕ) → range_with_len a n ≡ tab a n (λ i. i)
range-tab a zero = refl
range-tab a (suc n) = ap (◌∷◌ a) (range-tab (a + 1) n ∙ ap (λ (k : ℕ). tab k n (λ i. i)) (add-one a))

pub filter-those : {A : Type 0} (p : A → Bool) (l : List A) → filter p l ≡ those p l
filter-those p [] = refl
filter-those p (x ∷ l) = go (is (p x)) (filter-those p l)
  where
    go : Is (p x) → filter p l ≡ those p l → filter p (x ∷ l) ≡ those p (x ∷ l)
    go (yes-is q) e = rw (q, filter, those) (ap (◌∷◌ x) e)
    go (no-is q) e = rw (q, filter, those) e
