-- Rule 7: what holds between the turns of the loops that find the states that are kept. First the seeds, the states with a mark and the root, are
-- met; then a state is taken, and its parents are met, until none waits. Assumes nothing.
use mathlib.Core.Path.{◌≡◌, refl, sym, ap, subst, ◌∙◌}
use mathlib.Core.Bool.{Bool, true, false, false≢true}
use mathlib.Core.List.{List, [], ◌∷◌, ◌++◌}
use Prim.Native.Nat.{ℕ, ◌+◌, ◌-◌, ◌*◌, ◌/◌, ◌%◌, ◌≤◌, ◌<◌}
use native.Mathlib.Nat.{not-suc-le-zero}
use native.Mathlib.Omega.{arith}
use borrow.Author.Count.{below_more}
use lib.ListN.{length, get_or, length-replicate}
use Rattle.bits.specs.Bits.{is_set}
use Rattle.lists.specs.Sets.{In, from-seed, by-edge, count}
use Rattle.lists.proofs.Worklist.{AllIn}
use Rattle.graph_rules.specs.Graph.{Graph, state_of, leads}
use Rattle.graph_rules.proofs.Views.{edge-within, leads-edge}
use Rattle.prune.specs.Matrix.{byte_of, bit_at}
use Rattle.prune.proofs.Backward.{seed, Good, found, Search, found_none, found-there, found-byte}
use Rattle.worklist.specs.Work.{Work, begun, pushed}
use Rattle.worklist.proofs.Looking.{none-met, met, taken, looked-at, pushed-in, pushed-keeps, pushed-length, pushed-balance}
use Rattle.graph_rules.specs.Layout.{most_states}

abbrev pub SeedsIn : Graph → ℕ → List Bool → Type 0
SeedsIn g n out = (s : ℕ) → s < n → seed g s ≡ true → In out s

-- ---- the seeds: the states before `next` have been tried

pub record Seeded (g : Graph) (next : ℕ) (w : Work) : Type 0 where
  pub search : Search g (λ _. ⊥) w
  pub len : length w.seen ≡ most_states
  pub seeds : SeedsIn g next w.seen

pub seeded-none : (g : Graph) → Seeded g 0 (begun most_states)
seeded-none g =
    record {
      search = none-met (found g) (length g.states) (Good g) most_states;
      len = length-replicate {A = Bool} most_states false;
      seeds = λ s h. absurd (not-suc-le-zero h);
    }

module _ (g : Graph) (next : ℕ) (w : Work) (s : Seeded g next w) where
  pub seeded-more : next < most_states → next < length g.states → seed g next ≡ true → Seeded g (next + 1) (pushed w next)
  seeded-more small state hot =
      let l = s.len in
      record {
        search = met (found g) (length g.states) (Good g) w next (from-seed state hot) s.search;
        len = pushed-length w next ∙ s.len;
        seeds = below_more _ next (λ k b x. pushed-keeps w next k (s.seeds k b x)) (λ x. pushed-in w next (omega arith));
      }

  pub seeded-skip : seed g next ≡ false → Seeded g (next + 1) w
  seeded-skip cold =
      record { search = s.search; len = s.len; seeds = below_more _ next s.seeds (λ x. absurd (false≢true (sym cold ∙ x))) }

-- ---- a state t is looked at: those of its parents that are below p are met. w₀: when this began

pub record Looked (g : Graph) (n t p : ℕ) (w₀ w : Work) : Type 0 where
  pub search : Search g (λ k. k ≡ t) w
  pub len : length w.seen ≡ most_states
  pub seeds : SeedsIn g n w.seen
  pub here : In w.seen t
  pub parents : AllIn (found g t) w.seen p
  pub balance : count w.seen + length w₀.waiting ≡ count w₀.seen + length w.waiting  -- each state that is met waits

-- the state that is taken
pub looked-none : (g : Graph) (n : ℕ) (w v : Work) (t : ℕ) → Seeded g n w → v.seen ≡ w.seen → w.waiting ≡ v.waiting ++ (t ∷ []) → In v.seen t
    → Looked g n t 0 v v
looked-none g n w v t s same waits here =
    record {
      search = taken (found g) (length g.states) (Good g) w v t same waits s.search;
      len = ap length same ∙ s.len;
      seeds = subst (SeedsIn g n) (sym same) s.seeds;
      here = here;
      parents = λ j b. absurd (not-suc-le-zero b);
      balance = refl;
    }

-- a part of it that begins where another ends
pub looked-on : (g : Graph) (n t p q : ℕ) (w₀ w v : Work) → Looked g n t p w₀ w → Looked g n t q w v → Looked g n t q w₀ v
looked-on g n t p q w₀ w v a b =
    record {
      search = b.search;
      len = b.len;
      seeds = b.seeds;
      here = b.here;
      parents = b.parents;
      balance = (let x = a.balance in let y = b.balance in omega arith);
    }

module _ (g : Graph) (n t p : ℕ) (w₀ w : Work) (l : Looked g n t p w₀ w) where
  -- eight states at once, none of which is a parent
  pub looked-byte : (m : List ℕ) → ((t p : ℕ) → t < most_states → p < most_states → bit_at m t p ≡ leads (state_of g p) t) → t < most_states → p < most_states
      → get_or m (byte_of t p) 0 ≡ 0 → Looked g n t (p + (8 - p % 8)) w₀ w
  looked-byte m bits ht hp e =
      record {
        search = l.search;
        len = l.len;
        seeds = l.seeds;
        here = l.here;
        parents = found-byte g m bits w.seen t p ht hp e l.here l.parents;
        balance = l.balance;
      }

  -- a state that is no parent
  pub looked-skip : leads (state_of g p) t ≡ false → Looked g n t (p + 1) w₀ w
  looked-skip e =
      record {
        search = l.search;
        len = l.len;
        seeds = l.seeds;
        here = l.here;
        parents = below_more _ p l.parents (found_none g w.seen t p l.here e);
        balance = l.balance;
      }

  -- a parent
  pub looked-more : p < most_states → leads (state_of g p) t ≡ true → Looked g n t (p + 1) w₀ (pushed w p)
  looked-more small leads-to =
      let inside : p < length w.seen = let e = l.len in omega arith in
      let new = pushed-in w p inside in
      let still = pushed-keeps w p t l.here in
      let (d, e) = leads-edge g p t leads-to in
      record {
        search = met (found g) (length g.states) (Good g) w p (by-edge (l.search.good t l.here) (edge-within g p d t e) leads-to) l.search;
        len = pushed-length w p ∙ l.len;
        seeds = λ s h x. pushed-keeps w p s (l.seeds s h x);
        here = still;
        parents = below_more _ p (λ j h. pushed-keeps w p (found g t j) (l.parents j h)) (found-there g (pushed w p).seen t p still new);
        balance = (let more = pushed-balance w p inside in let q = l.balance in omega arith);
      }

  -- all states have been asked
  pub looked-all : length g.states ≤ p → Seeded g n w
  looked-all h =
      record { search = looked-at (found g) (length g.states) (Good g) w t (λ j b. l.parents j (omega arith)) l.search; len = l.len; seeds = l.seeds }

-- bit b of byte k of a row is that of state 8k + b
pub bit-of : (m : List ℕ) (t k b : ℕ) (r : Bool) → b < 8 → r ≡ is_set b (get_or m (128 * t + k) 0) → r ≡ bit_at m t (8 * k + b)
unfolding bit_at
bit-of m t k b r h e =
    let q : k ≡ (8 * k + b) / 8 = omega arith in
    let i : b ≡ (8 * k + b) % 8 = omega arith in
    e ∙ (λ j. is_set (i j) (get_or m (128 * t + q j) 0))
