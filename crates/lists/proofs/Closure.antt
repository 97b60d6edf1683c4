-- The closure of a seed under an edge relation: the inductive predicate and the list that computes agree (`closure-sound`, `closure-complete`).
-- `closure-is`: what a worklist shows. Assumes nothing.
use mathlib.Core.Path.{◌≡◌, sym, ap, subst, ◌∙◌}
use mathlib.Core.Bool.{Bool, true, false, ◌&&◌, ◌||◌, false≢true}
use mathlib.Core.List.{List, [], ◌∷◌}
use mathlib.Core.Logic.{◌⊎◌, inl, inr, ⊎_elim}
use Prim.Native.Nat.{ℕ, zero, suc, ◌<◌, zero-le, suc-le-suc}
use native.Mathlib.Nat.{not-suc-le-zero, le_of_suc-le-suc, eq-or-lt_of_le}
use native.Mathlib.Omega.{arith}
use lib.ListN.{length, get_or}
use Rattle.lists.specs.Lists.{tab}
use Rattle.lists.specs.Sets.{any_b, In, Sub, Reach, from-seed, by-edge, round, rounds, closure}
use Rattle.lists.proofs.Bools.{or_cases, or_left, or_right, and_both, and_intro, bool-ext}
use Rattle.lists.proofs.Elements.{length-tab, get_or-tab0}
use Rattle.lists.proofs.Counting.{settled}

-- ---- some number below n

pub any-intro : (n : ℕ) (p : ℕ → Bool) (k : ℕ) → k < n → p k ≡ true → any_b n p ≡ true
any-intro zero p k l h = absurd (not-suc-le-zero l)
any-intro (suc n) p k l h =
    ⊎_elim
    (λ e. or_left (p n) (any_b n p) (subst (λ (x : ℕ). p x ≡ true) e h))
    (λ lt. or_right (p n) (any_b n p) (any-intro n p k lt h))
    (eq-or-lt_of_le (le_of_suc-le-suc l))

pub any-elim : (n : ℕ) (p : ℕ → Bool) → any_b n p ≡ true → (k : ℕ) × (k < n) × (p k ≡ true)
any-elim zero p h = absurd (false≢true h)
any-elim (suc n) p h =
    ⊎_elim
    (λ e. (n, omega arith, e))
    (λ r. let (k, l, e) = any-elim n p r in (k, omega arith, e))
    (or_cases (p n) (any_b n p) h)

-- ---- rounds

pub in-below : (s : List Bool) (t : ℕ) → In s t → t < length s
in-below [] t h = absurd (false≢true h)
in-below (x ∷ s) zero h = suc-le-suc zero-le
in-below (x ∷ s) (suc t) h = suc-le-suc (in-below s t h)

module _ (edge : ℕ → ℕ → Bool) (n : ℕ) where
  round-length : (s : List Bool) → length (round edge n s) ≡ n
  unfolding round
  round-length s = length-tab 0 n _

  round-at : (s : List Bool) (t : ℕ) → t < n → get_or (round edge n s) t false ≡ (get_or s t false || any_b n (λ k. get_or s k false && edge k t))
  unfolding round
  round-at s t h = get_or-tab0 n _ t false h

  round_keeps : (s : List Bool) (t : ℕ) → t < n → In s t → In (round edge n s) t
  round_keeps s t h i = round-at s t h ∙ or_left _ _ i

  round-step : (s : List Bool) (k t : ℕ) → k < n → t < n → In s k → edge k t ≡ true → In (round edge n s) t
  round-step s k t hk ht i e =
      round-at s t ht ∙ or_right (get_or s t false) _ (any-intro n _ k hk (and_intro _ _ i e))

  round-inv : (s : List Bool) (t : ℕ) → In (round edge n s) t → (t < n) × (In s t ⊎ ((k : ℕ) × (k < n) × In s k × (edge k t ≡ true)))
  round-inv s t i =
      let h : t < n = subst (λ (m : ℕ). t < m) (round-length s) (in-below (round edge n s) t i) in (
        h,
        ⊎_elim
            (λ a. inl a)
            (λ b. let (k, l, e) = any-elim n _ b in let (x, y) = and_both _ _ e in inr (k, l, x, y))
            (or_cases _ _ (sym (round-at s t h) ∙ i)),
      )

  rounds-length : (r : ℕ) (s : List Bool) → length s ≡ n → length (rounds edge n r s) ≡ n
  unfolding rounds
  rounds-length zero s e = e
  rounds-length (suc r) s e = round-length (rounds edge n r s)

  grows : (s : List Bool) → length s ≡ n → Sub s (round edge n s)
  grows s e i h = round_keeps s i (subst (λ (m : ℕ). i < m) e (in-below s i h)) h

  -- n rounds are enough
  stable : (s : List Bool) → length s ≡ n → round edge n (rounds edge n n s) ≡ rounds edge n n s
  unfolding rounds
  stable s e =
      settled n (λ r. rounds edge n r s) (λ r. rounds-length r s e) (λ r. grows (rounds edge n r s) (rounds-length r s e))
      (λ r. round edge n (rounds edge n r s) ≡ rounds edge n r s) (λ r. sym) (λ r. ap (round edge n)) 0 zero-le n (omega arith)

module _ (edge : ℕ → ℕ → Bool) (n : ℕ) (seed : ℕ → Bool) where
  pub closure-length : length (closure edge n seed) ≡ n
  unfolding closure
  closure-length = rounds-length edge n n (tab 0 n seed) (length-tab 0 n seed)

  rounds-sound : (r : ℕ) (t : ℕ) → In (rounds edge n r (tab 0 n seed)) t → Reach edge n seed t
  unfolding rounds
  rounds-sound zero t i =
      let h : t < n = subst (λ (m : ℕ). t < m) (length-tab 0 n seed) (in-below (tab 0 n seed) t i) in
      from-seed h (sym (get_or-tab0 n seed t false h) ∙ i)
  rounds-sound (suc r) t i =
      let (h, w) = round-inv edge n (rounds edge n r (tab 0 n seed)) t i in
      ⊎_elim (λ a. rounds-sound r t a) (λ b. by-edge (rounds-sound r b.0 b.2) h b.3) w

  pub closure-sound : (t : ℕ) → In (closure edge n seed) t → Reach edge n seed t
  unfolding closure
  closure-sound t i = rounds-sound n t i

  rounds-seed : (r : ℕ) (t : ℕ) → t < n → seed t ≡ true → In (rounds edge n r (tab 0 n seed)) t
  unfolding rounds
  rounds-seed zero t h e = get_or-tab0 n seed t false h ∙ e
  rounds-seed (suc r) t h e = round_keeps edge n (rounds edge n r (tab 0 n seed)) t h (rounds-seed r t h e)

  pub closure-seed : (t : ℕ) → t < n → seed t ≡ true → In (closure edge n seed) t
  unfolding closure
  closure-seed t h e = rounds-seed n t h e

  pub closure-closed : (k t : ℕ) → In (closure edge n seed) k → t < n → edge k t ≡ true → In (closure edge n seed) t
  unfolding closure
  closure-closed k t i h e =
      let x = rounds edge n n (tab 0 n seed) in
      let l : length x ≡ n = rounds-length edge n n (tab 0 n seed) (length-tab 0 n seed) in
      let hk : k < n = subst (λ (m : ℕ). k < m) l (in-below x k i) in
      subst (λ (y : List Bool). In y t) (stable edge n (tab 0 n seed) (length-tab 0 n seed)) (round-step edge n x k t hk h i e)

  pub closure-complete : (t : ℕ) → Reach edge n seed t → In (closure edge n seed) t
  closure-complete t (from-seed h e) = closure-seed t h e
  closure-complete t (by-edge {k} r h e) = closure-closed k t (closure-complete k r) h e

  pub reach-below : (t : ℕ) → Reach edge n seed t → t < n
  reach-below t (from-seed h e) = h
  reach-below t (by-edge r h e) = h

  -- what a worklist shows: a set that holds the seed, is closed, and has nothing but what is reached, is the closure, at every index
  pub closure-is : (s : List Bool)
      → ((t : ℕ) → t < n → seed t ≡ true → In s t)
      → ((k t : ℕ) → In s k → t < n → edge k t ≡ true → In s t)
      → ((t : ℕ) → In s t → Reach edge n seed t)
      → (t : ℕ) → get_or s t false ≡ get_or (closure edge n seed) t false
  closure-is s has closed only t =
      bool-ext _ _ (λ i. closure-complete t (only t i)) (λ i. all t (closure-sound t i))
    where
      all : (u : ℕ) → Reach edge n seed u → In s u
      all u (from-seed h e) = has u h e
      all u (by-edge {k} r h e) = closed k u (all k r) h e
