-- The bit matrix of parents: a bit that is set, the others, and what stands in it in the midst of the pass over all edges. Assumes nothing.
use Rattle.std.specs.Prelude.{Some}
use mathlib.Core.Path.{◌≡◌, refl, sym, ap, subst, subst₂, ◌∙◌}
use mathlib.Core.Bool.{true, false, false≢true}
use mathlib.Core.List.{List}
use mathlib.Core.Logic.{◌⊎◌, inl, inr, ⊎_elim}
use Prim.Native.Nat.{ℕ, ◌+◌, ◌%◌, ◌<◌}
use native.Mathlib.Omega.{arith}
use borrow.Author.Tests.{eqb-true, eqb-false}
use lib.Dec.{eqb}
use lib.ListN.{length, get_or, set, replicate, length-set, length-replicate}
use lib.Seq.{get_or-set_same, get_or-set_other}
use Rattle.lists.proofs.Bools.{Is, is, yes-is, no-is, bool-ext, some_inj}
use Rattle.lists.proofs.Padding.{replicate-at}
use Rattle.bits.specs.Bits.{is_set, with_bit}
use Rattle.bits.proofs.Bits.{bit-zero, set_own, set_other}
use Rattle.graph_rules.specs.Graph.{Graph, state_of, to, leads}
use Rattle.graph_rules.proofs.Views.{edge_leads, edge-within, leads-edge}
use Rattle.prune.specs.Matrix.{matrix_size, byte_of, bit_at}
use Rattle.words.proofs.Edges.{Pass, pass-none, pass-more, pass-skip, pass-row}
use Rattle.graph_rules.specs.Layout.{most_states}

-- ---- one bit

-- the matrix with bit p of row t set
abbrev pub with_parent : List ℕ → ℕ → ℕ → List ℕ
with_parent m t p = set m (byte_of t p) (with_bit (p % 8) (get_or m (byte_of t p) 0) true)

-- a byte that is zero has no bit
pub byte-none : (m : List ℕ) (t p : ℕ) → get_or m (byte_of t p) 0 ≡ 0 → bit_at m t p ≡ false
unfolding bit_at
byte-none m t p e = ap (is_set (p % 8)) e ∙ ap (λ (b : ℕ). eqb b 1) (bit-zero (p % 8))

pub matrix-none : (k t p : ℕ) → bit_at (replicate k 0) t p ≡ false
matrix-none k t p = byte-none (replicate k 0) t p (replicate-at 0 k (byte_of t p))

module _ (m : List ℕ) (len : length m ≡ matrix_size) (t p : ℕ) (ht : t < most_states) (hp : p < most_states) where
  abbrev at : ℕ
  at = byte_of t p

  bit-own : bit_at (with_parent m t p) t p ≡ true
  unfolding bit_at
  bit-own = ap (is_set (p % 8)) (get_or-set_same m at _ 0 (omega arith)) ∙ set_own (p % 8) (get_or m at 0) true

  bit-other : (u q : ℕ) → q < most_states → ((u ≡ t) × (q ≡ p) → ⊥) → bit_at (with_parent m t p) u q ≡ bit_at m u q
  unfolding bit_at
  bit-other u q hq n = go (is (eqb (byte_of u q) at))
    where
      go : Is (eqb (byte_of u q) at) → bit_at (with_parent m t p) u q ≡ bit_at m u q
      go (no-is e) = ap (is_set (q % 8)) (get_or-set_other m at (byte_of u q) _ 0 (eqb-false (byte_of u q) at e))
      go (yes-is e) =
          let i : byte_of u q ≡ at = eqb-true (byte_of u q) at e in
          let k : q % 8 ≡ p % 8 → ⊥ = λ z. n (omega arith, omega arith) in
          ap (λ (j : ℕ). is_set (q % 8) (get_or (with_parent m t p) j 0)) i
          ∙ ap (is_set (q % 8)) (get_or-set_same m at _ 0 (omega arith))
          ∙ set_other (p % 8) (get_or m at 0) true (q % 8) k
          ∙ ap (λ (j : ℕ). is_set (q % 8) (get_or m j 0)) (sym i)

-- ---- the pass

-- a pair: a state, and one of its parents
abbrev pub Pair : Type 0
Pair = ℕ × ℕ

module _ (g : Graph) where
  abbrev pub Led : ℕ → ℕ → Pair → Type 0
  Led q d x = (x.1 ≡ q) × (to g q d ≡ Some x.0)

  abbrev pub Noted : List ℕ → Pair → Type 0
  Noted m x = (x.0 < most_states) × (x.1 < most_states) × (bit_at m x.0 x.1 ≡ true)

  pub record Matrix (p c : ℕ) (m : List ℕ) : Type 0 where
    pub len : length m ≡ matrix_size
    pub pass : Pass Led p c (Noted m)

  pub parents-none : Matrix 0 0 (replicate matrix_size 0)
  parents-none =
      record {
        len = length-replicate {A = ℕ} matrix_size 0;
        pass = pass-none Led (Noted (replicate matrix_size 0)) (λ x n. false≢true (sym (matrix-none matrix_size x.0 x.1) ∙ n.2));
      }

  module _ (p c : ℕ) (m : List ℕ) (v : Matrix p c m) where
    pub parents-skip : ((t : ℕ) → to g p c ≡ Some t → ⊥) → Matrix p (c + 1) m
    parents-skip f = record { len = v.len; pass = pass-skip Led p c (Noted m) v.pass (λ x e. f x.0 e.1) }

    pub parents-set : (t : ℕ) → t < most_states → p < most_states → to g p c ≡ Some t → Matrix p (c + 1) (with_parent m t p)
    parents-set t ht hp e =
        record { len = length-set m (byte_of t p) _ ∙ v.len; pass = pass-more Led p c (Noted m) v.pass (Noted (with_parent m t p)) only keeps hits }
      where
        own : (u q : ℕ) → u ≡ t → q ≡ p → bit_at (with_parent m t p) u q ≡ true
        own u q a b = subst₂ (λ (u q : ℕ). bit_at (with_parent m t p) u q ≡ true) (sym a) (sym b) (bit-own m v.len t p ht hp)

        -- the pair is this one, or its bit stays
        split : (u q : ℕ) → q < most_states → ((u ≡ t) × (q ≡ p)) ⊎ (bit_at (with_parent m t p) u q ≡ bit_at m u q)
        split u q hq = go (is (eqb u t)) (is (eqb q p))
          where
            go : Is (eqb u t) → Is (eqb q p) → ((u ≡ t) × (q ≡ p)) ⊎ (bit_at (with_parent m t p) u q ≡ bit_at m u q)
            go (yes-is a) (yes-is b) = inl (eqb-true u t a, eqb-true q p b)
            go (yes-is a) (no-is b) = inr (bit-other m v.len t p ht hp u q hq (λ z. eqb-false q p b z.1))
            go (no-is a) b = inr (bit-other m v.len t p ht hp u q hq (λ z. eqb-false u t a z.0))

        only : (x : Pair) → Noted (with_parent m t p) x → Noted m x ⊎ Led p c x
        only x n =
            ⊎_elim
            (λ z. inr (z.1, subst (λ (u : ℕ). to g p c ≡ Some u) (sym z.0) e))
            (λ z. inl (n.0, n.1, sym z ∙ n.2))
            (split x.0 x.1 n.1)

        keeps : (x : Pair) → Noted m x → Noted (with_parent m t p) x
        keeps x n = (n.0, n.1, ⊎_elim (λ z. own x.0 x.1 z.0 z.1) (λ z. z ∙ n.2) (split x.0 x.1 n.1))

        hits : (x : Pair) → Led p c x → Noted (with_parent m t p) x
        hits x l =
            let a : x.0 ≡ t = some_inj (sym l.1 ∙ e) in
            (subst (λ (u : ℕ). u < most_states) (sym a) ht, subst (λ (q : ℕ). q < most_states) (sym l.0) hp, own x.0 x.1 a l.0)

    pub parents-row : ((d u : ℕ) → to g p d ≡ Some u → d < c) → Matrix (p + 1) 0 m
    parents-row wide = record { len = v.len; pass = pass-row Led p c (Noted m) v.pass (λ d x e. wide d x.0 e.1) }

  -- all edges have been passed
  pub parents-all : (m : List ℕ) → Matrix (length g.states) 0 m → (t p : ℕ) → t < most_states → p < most_states → bit_at m t p ≡ leads (state_of g p) t
  parents-all m v t p ht hp =
      bool-ext (bit_at m t p) (leads (state_of g p) t)
      (λ b. let (q, d, x) = v.pass.sound (t, p) (ht, hp, b) in edge_leads g p d t (ap (λ (y : ℕ). to g y d) x.0 ∙ x.1))
      (λ l. let (d, e) = leads-edge g p t l in (v.pass.all p d (t, p) (inl (edge-within g p d t e)) (refl, e)).2)
