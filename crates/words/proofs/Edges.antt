-- A pass over all edges of a graph, state by state, that collects what they hit: what it has after some edges, and after all. Assumes nothing.
use mathlib.Core.Path.{◌≡◌, subst, subst₂}
use mathlib.Core.Logic.{◌⊎◌, inl, inr, ⊎_elim}
use Prim.Native.Nat.{ℕ, ◌+◌, ◌≤◌, ◌<◌}
use native.Mathlib.Nat.{not-suc-le-zero, eq-or-lt_of_le}
use native.Mathlib.Omega.{arith}

-- edge d of state q comes before edge c of state p
abbrev pub Before : ℕ → ℕ → ℕ → ℕ → Type 0
Before q d p c = (q < p) ⊎ ((q ≡ p) × (d < c))

-- Hit q d x: edge d of state q hits x. Has: what is collected before edge c of state p.
pub record Pass {X : Type 0} (Hit : ℕ → ℕ → X → Type 0) (p c : ℕ) (Has : X → Type 0) : Type 0 where
  pub sound : (x : X) → Has x → (q : ℕ) × (d : ℕ) × Hit q d x
  pub all : (q d : ℕ) (x : X) → Before q d p c → Hit q d x → Has x

module _ {X : Type 0} (Hit : ℕ → ℕ → X → Type 0) where
  pub pass-none : (Has : X → Type 0) → ((x : X) → Has x → ⊥) → Pass Hit 0 0 Has
  pass-none Has f =
      record { sound = λ x h. absurd (f x h); all = λ q d x b e. absurd (⊎_elim (λ l. not-suc-le-zero l) (λ l. not-suc-le-zero l.1) b) }

  module _ (p c : ℕ) (Has : X → Type 0) (pass : Pass Hit p c Has) where
    -- one edge more: what came before, or that edge
    before_more : (q d : ℕ) → Before q d p (c + 1) → Before q d p c ⊎ ((q ≡ p) × (d ≡ c))
    before_more q d (inl h) = inl (inl h)
    before_more q d (inr h) = ⊎_elim (λ e. inr (h.0, e)) (λ l. inl (inr (h.0, l))) (last h.1)
      where
        last : d < c + 1 → (d ≡ c) ⊎ (d < c)
        last l = let k : d ≤ c = omega arith in eq-or-lt_of_le k

    -- what the collection becomes has what it had, and what the edge hits, and nothing else
    pub pass-more : (New : X → Type 0) → ((x : X) → New x → Has x ⊎ Hit p c x) → ((x : X) → Has x → New x) → ((x : X) → Hit p c x → New x)
        → Pass Hit p (c + 1) New
    pass-more New only keeps hits =
        record {
          sound = λ x n. ⊎_elim (λ h. pass.sound x h) (λ e. (p, c, e)) (only x n);
          all = λ q d x b e.
              ⊎_elim (λ h. keeps x (pass.all q d x h e)) (λ h. hits x (subst₂ (λ (q d : ℕ). Hit q d x) h.0 h.1 e)) (before_more q d b);
        }

    -- an edge that hits nothing
    pub pass-skip : ((x : X) → Hit p c x → ⊥) → Pass Hit p (c + 1) Has
    pass-skip f = pass-more Has (λ x h. inl h) (λ x h. h) (λ x e. absurd (f x e))

    -- a row has been passed whole
    pub pass-row : ((d : ℕ) (x : X) → Hit p d x → d < c) → Pass Hit (p + 1) 0 Has
    pass-row wide = record { sound = pass.sound; all = λ q d x b e. pass.all q d x (⊎_elim (λ l. row q d x l e) (λ l. absurd (not-suc-le-zero l.1)) b) e }
      where
        row : (q d : ℕ) (x : X) → q < p + 1 → Hit q d x → Before q d p c
        row q d x l e =
            let k : q ≤ p = omega arith in
            ⊎_elim (λ s. inr (s, wide d x (subst (λ (y : ℕ). Hit y d x) s e))) (λ m. inl m) (eq-or-lt_of_le k)
