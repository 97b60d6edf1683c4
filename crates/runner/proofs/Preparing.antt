-- The edges of the states prepared one after another, and an edge as it is kept. Assumes nothing.
use Rattle.std.proofs.Common.{◌≡◌, refl, ap, ◌∙◌, Bool, true, false, cond, List, [], ◌∷◌, ℕ, zero, suc, ◌+◌, ◌≤◌, ◌<◌, length, get_or, take, arith, Option, Some, None, slice_get, unwrap_or, set, length-set, below_more, eqb, ltb, ltb-false}
use Rattle.std.proofs.lemmas.List.{get_or-set_same, get_or-set_other}
use Rattle.lists.proofs.Bools.{Is, yes-is, no-is, is}
use Rattle.graph_rules.specs.Graph.{State, Graph, state_of}
use Rattle.classes.specs.Classes.{Class, Comparison, comparisons, cost}
use Rattle.classes.specs.ClassAnswers.{as_comparisons}
use Rattle.classes.specs.declared.byte_class.Comparison.{Comparison as Entry}
use Rattle.classes.specs.declared.byte_class.Comparisons.{Comparisons}
use Rattle.classes.proofs.Few.{few-comparisons, few-exceptions, laid-long, listed-front}
use Rattle.edges.specs.Edges.{class_to}
use Rattle.plan_rules.specs.declared.Way.{Way}
use Rattle.plan_rules.specs.declared.Way.TheVariants.{BySelf, ByTests, ByMask}
use Rattle.plan_rules.specs.Plan.{base, by_table, way_to}
use Rattle.runner.specs.declared.edge.Edge.{Edge}
use Rattle.runner.specs.Prepared.{no_edge, tests_of, targets_of, edge_at, edges_size, untested, tested, by_way, edge_to, Prepared}

-- ---- an edge

-- a class that is tested by comparisons costs little
tests-cheap : (st : State) (s u : ℕ) → way_to base st s u ≡ ByTests → cost (class_to st u) ≤ base.cost
unfolding way_to
tests-cheap st s u e = go (is (eqb u s)) (is (ltb 2 (cost (class_to st u))))
  where
    go : Is (eqb u s) → Is (ltb 2 (cost (class_to st u))) → cost (class_to st u) ≤ 2
    go x (no-is y) = ltb-false _ _ y
    go (yes-is x) (yes-is y) = let q : BySelf ≡ ByTests = rw x at e in cc
    go (no-is x) (yes-is y) = let q : ByMask ≡ ByTests = rw (x, y) at e in cc

front-three : {A : Type 0} (d : A) (l : List A) → 3 ≤ length l → take 3 l ≡ get_or l 0 d ∷ get_or l 1 d ∷ get_or l 2 d ∷ []
front-three d [] h = absurd (omega arith)
front-three d (a ∷ []) h = absurd (omega arith)
front-three d (a ∷ b ∷ []) h = absurd (omega arith)
front-three d (a ∷ b ∷ c ∷ l) h = refl

front-two : (l : List ℕ) → 2 ≤ length l → take 2 l ≡ get_or l 0 0 ∷ get_or l 1 0 ∷ []
front-two [] h = absurd (omega arith)
front-two (a ∷ []) h = absurd (omega arith)
front-two (a ∷ b ∷ l) h = refl

-- its comparisons, laid out, as they are kept
pub kept : (u : ℕ) {laid : Comparisons} (ms : List Comparison) → laid ≡ as_comparisons ms → (d : Entry)
    → record { target = u; count = laid.count; list = get_or laid.list 0 d ∷ get_or laid.list 1 d ∷ get_or laid.list 2 d ∷ []; except = get_or laid.except 0 0 ∷ get_or laid.except 1 0 ∷ [] }
    ≡ tested u (as_comparisons ms)
kept u {laid} ms same d =
    let long = laid-long ms same in
    rw (← front-three d laid.list (omega (arith, long.0)), ← front-two laid.except (omega (arith, long.1))) (ap (tested u) same)

-- ---- what is kept of an edge

module _ (g : Graph) (s : ℕ) where
  -- where it leads
  pub kept-target : (t : Option ℕ) → (edge_to g s t).target ≡ unwrap_or t 0
  unfolding edge_to
  kept-target None = refl
  kept-target (Some u) = go (by_table base (targets_of g s)) (way_to base (state_of g s) s u)
    where
      way : (w : Way) → (by_way w (class_to (state_of g s) u) u).target ≡ u
      way BySelf = refl
      way ByTests = refl
      way ByMask = refl

      go : (b : Bool) (w : Way) → (cond b (untested u) (by_way w (class_to (state_of g s) u) u)).target ≡ u
      go true w = refl
      go false w = way w

  -- the comparisons by which it is tested
  pub kept-tests : (u : ℕ) → by_table base (targets_of g s) ≡ false → way_to base (state_of g s) s u ≡ ByTests
      → tests_of (edge_to g s (Some u)) ≡ comparisons (class_to (state_of g s) u)
  unfolding edge_to
  kept-tests u few way =
      let class : Class = class_to (state_of g s) u in
      let small : cost class ≤ 2 = tests-cheap (state_of g s) s u way in
      rw (few, way) (listed-front (comparisons class) refl 3 2 (omega (arith, few-comparisons class)) (omega (arith, few-exceptions class)))

  -- no edge, an edge of a state that is run by a table, and one that is tested by itself
  pub kept-none : untested 0 ≡ edge_to g s None
  unfolding edge_to
  kept-none = refl

  pub kept-table : (u : ℕ) → by_table base (targets_of g s) ≡ true → untested u ≡ edge_to g s (Some u)
  unfolding edge_to
  kept-table u many = rw many refl

  pub kept-way : (u : ℕ) {w : Way} → by_table base (targets_of g s) ≡ false → way_to base (state_of g s) s u ≡ w
      → by_way w (class_to (state_of g s) u) u ≡ edge_to g s (Some u)
  unfolding edge_to
  kept-way u few way = rw (few, way) refl

-- ---- the states below n are prepared

pub record PreparedTo (g : Graph) (n : ℕ) (found edges : List Edge) : Type 0 where
  pub size : length edges ≡ edges_size
  pub are : (s : ℕ) → s < n → (j : ℕ) → j < base.edges → get_or edges (edge_at s j) no_edge ≡ edge_to g s (slice_get (targets_of g s) j)
  pub rest : (i : ℕ) → edge_at n 0 ≤ i → get_or edges i no_edge ≡ get_or found i no_edge

pub prepared-all : {g : Graph} {n : ℕ} {found edges : List Edge} → length g.states ≤ n → PreparedTo g n found edges → Prepared g edges
prepared-all all p = λ s j h. p.are s (omega arith) j

-- both edges of the next state are kept
pub prepared-next : {g : Graph} {s : ℕ} {found edges : List Edge} → PreparedTo g s found edges → edge_at s 1 < edges_size → {lowest : List (Option ℕ)}
    → lowest ≡ slice_get (targets_of g s) 0 ∷ slice_get (targets_of g s) 1 ∷ [] → (e f : Edge)
    → e ≡ edge_to g s (get_or lowest 0 None) → f ≡ edge_to g s (get_or lowest 1 None) → PreparedTo g (s + 1) found (set (set edges (edge_at s 0) e) (edge_at s 1) f)
prepared-next {g} {s} {found} {edges} p room {lowest} is-lowest e f first second =
    record {
      size = length-set (set edges (edge_at s 0) e) (edge_at s 1) f ∙ length-set edges (edge_at s 0) e ∙ p.size;
      are = below_more Kept s before here;
      rest = λ i h. other i (λ q. omega arith) (λ q. omega arith) ∙ p.rest i (omega arith);
    }
  where
    after : List Edge
    after = set (set edges (edge_at s 0) e) (edge_at s 1) f

    Kept : ℕ → Type 0
    Kept t = (j : ℕ) → j < base.edges → get_or after (edge_at t j) no_edge ≡ edge_to g t (slice_get (targets_of g t) j)

    other : (i : ℕ) → (i ≡ edge_at s 0 → ⊥) → (i ≡ edge_at s 1 → ⊥) → get_or after i no_edge ≡ get_or edges i no_edge
    other i a b = get_or-set_other (set edges (edge_at s 0) e) (edge_at s 1) i f no_edge b ∙ get_or-set_other edges (edge_at s 0) i e no_edge a

    before : (t : ℕ) → t < s → Kept t
    before t h j k = other (edge_at t j) (λ q. omega arith) (λ q. omega arith) ∙ p.are t h j k

    here : Kept s
    here zero k =
        rw (get_or-set_other (set edges (edge_at s 0) e) (edge_at s 1) (edge_at s 0) f no_edge (λ q. omega arith), get_or-set_same edges (edge_at s 0) e no_edge (omega (arith, p.size)))
        (rw is-lowest at first)
    here (suc zero) k =
        rw (get_or-set_same (set edges (edge_at s 0) e) (edge_at s 1) f no_edge (omega (arith, length-set edges (edge_at s 0) e, p.size))) (rw is-lowest at second)
    here (suc (suc j)) k = absurd (omega arith)
