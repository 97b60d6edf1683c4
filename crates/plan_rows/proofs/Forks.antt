-- The targets of a state, met in ascending order: how many, and the two lowest. Assumes nothing.
use Rattle.std.proofs.Common.{◌≡◌, refl, sym, ap, subst, ◌∙◌, Bool, true, false, List, [], ◌∷◌, ◌++◌, ◌⊎◌, inl, inr, ℕ, ◌+◌, ◌≤◌, ◌<◌, arith, ltb-true, lt-ltb, eqb, ltb, length, get_or, set, length-append, Option, Some, None, IfSome, slice_get}
use Rattle.std.proofs.lemmas.Option.{slice_get_past, slice_get-get_or}
use Rattle.lists.specs.Lists.{below, any_l, all_l, those}
use Rattle.lists.proofs.Bools.{lt-or-le}
use Rattle.lists.proofs.Elements.{length-tab, get_or-tab0, all-at, all-intro}
use Rattle.lists.proofs.Those.{those-keep, those-more, those-same}
use Rattle.graph_rules.specs.Graph.{State, Graph, state_of, graph_from}
use Rattle.graph_rules.proofs.Flat.{from-length}
use Rattle.edges.specs.Edges.{leads_to, targets}
use Rattle.edges.proofs.ByTarget.{target-leads}
use Rattle.plan_rules.specs.Plan.{base, by_table}
use Rattle.plan_rows.specs.declared.fork.Fork.{Fork}
use Rattle.plan_rows.specs.Fork.{fork_in, fork_of}

-- ---- a list's first two elements

abbrev pub lowest_of : List ℕ → List (Option ℕ)
lowest_of l = slice_get l 0 ∷ slice_get l 1 ∷ []

-- one element more at the end
lowest-write : (u : ℕ) (l : List ℕ) → length l < 2 → set (lowest_of l) (length l) (Some u) ≡ lowest_of (l ++ (u ∷ []))
lowest-write u [] h = refl
lowest-write u (x ∷ []) h = refl
lowest-write u (x ∷ y ∷ l) h = absurd (omega arith)

lowest-kept : (u : ℕ) (l : List ℕ) → 2 ≤ length l → lowest_of l ≡ lowest_of (l ++ (u ∷ []))
lowest-kept u [] h = absurd (omega arith)
lowest-kept u (x ∷ []) h = absurd (omega arith)
lowest-kept u (x ∷ y ∷ l) h = refl

-- ---- the numbers below u that pass

pub record Forking (p : ℕ → Bool) (count : ℕ) (lowest : List (Option ℕ)) (u : ℕ) : Type 0 where
  pub few : count ≤ u
  pub count-is : count ≡ length (those p (below u))
  pub lowest-are : lowest ≡ lowest_of (those p (below u))

module _ {p : ℕ → Bool} {count : ℕ} {lowest : List (Option ℕ)} {u : ℕ} (f : Forking p count lowest u) where
  module _ (e : p u ≡ true) where
    met : {after : List (Option ℕ)} → after ≡ lowest_of (those p (below u) ++ (u ∷ [])) → Forking p (count + 1) after (u + 1)
    met a =
        let c = f.count-is in
        let h = f.few in
        record {
          few = omega arith;
          count-is = (let k = length-append (those p (below u)) (u ∷ []) in let z : count + 1 ≡ length (those p (below u) ++ (u ∷ [])) = omega arith in z) ∙ ap length (sym (those-more p u e));
          lowest-are = a ∙ ap lowest_of (sym (those-more p u e));
        }

    pub forking-first : count < 2 → Forking p (count + 1) (set lowest count (Some u)) (u + 1)
    forking-first h =
        let l = those p (below u) in
        let c = f.count-is in
        met ((λ i. set (f.lowest-are i) (c i) (Some u)) ∙ lowest-write u l (omega arith))

    pub forking-later : (count < 2 → ⊥) → Forking p (count + 1) lowest (u + 1)
    forking-later n = let c = f.count-is in met (f.lowest-are ∙ lowest-kept u (those p (below u)) (omega (arith, n)))

  pub forking-not : p u ≡ false → Forking p count lowest (u + 1)
  forking-not e =
      record { few = let h = f.few in omega arith; count-is = f.count-is ∙ ap length (sym (those-same p u e)); lowest-are = f.lowest-are ∙ ap lowest_of (sym (those-same p u e)) }

-- ---- the targets of a state

-- each is a state
pub target_below : (n : ℕ) (st : State) (i : ℕ) → IfSome (slice_get (targets n st) i) (λ u. u < n)
unfolding targets
target_below n st i = go (lt-or-le i (length (targets n st)))
  where
    small : all_l (λ x. ltb x n) (below n) ≡ true
    small =
        all-intro (λ x. ltb x n) (below n) 0
        (λ j k. let b : j < n = omega (arith, length-tab 0 n (λ x. x)) in ap (λ (x : ℕ). ltb x n) (get_or-tab0 n (λ x. x) j 0 b) ∙ lt-ltb j n b)

    within : i < length (targets n st) → get_or (targets n st) i 0 < n
    within h = ltb-true _ n (all-at (λ x. ltb x n) (targets n st) i 0 (those-keep (leads_to st) (λ x. ltb x n) (below n) small) h)

    go : (i < length (targets n st)) ⊎ (length (targets n st) ≤ i) → IfSome (slice_get (targets n st) i) (λ u. u < n)
    go (inl h) = rw (slice_get-get_or (targets n st) i 0 h) (within h)
    go (inr h) = rw (slice_get_past (targets n st) i h) tt

-- all of them met
module _ (w : List ℕ) (s u : ℕ) {own : Bool} {count : ℕ} {lowest : List (Option ℕ)} (f : Forking (leads_to (state_of (graph_from w) s)) count lowest u) (e : u ≡ get_or w 0 0) (h : s < get_or w 0 0) (o : own ≡ leads_to (state_of (graph_from w) s) s) where
  abbrev st : State
  st = state_of (graph_from w) s

  abbrev n : ℕ
  n = length (graph_from w).states

  met-all : u ≡ n
  met-all = e ∙ sym (from-length w)

  own-is : own ≡ any_l (eqb s) (targets n st)
  own-is = let k : s < n = omega (arith, from-length w) in o ∙ sym (target-leads st n s k)

  count-all : count ≡ length (targets n st)
  unfolding targets
  count-all = f.count-is ∙ ap (λ (m : ℕ). length (those (leads_to st) (below m))) met-all

  lowest-all : lowest ≡ lowest_of (targets n st)
  unfolding targets
  lowest-all = f.lowest-are ∙ ap (λ (m : ℕ). lowest_of (those (leads_to st) (below m))) met-all

  pub forked : record { own = own; count = count; lowest = lowest } ≡ fork_of (graph_from w) s
  unfolding fork_of fork_in
  forked = λ i. record { own = own-is i; count = count-all i; lowest = lowest-all i }

-- ---- what the fork of a state says

module _ (g : Graph) (s : ℕ) {f : Fork} (is-fork : f ≡ fork_of g s) where
  abbrev ts : List ℕ
  ts = targets (length g.states) (state_of g s)

  pub fork-own : f.own ≡ any_l (eqb s) ts
  unfolding fork_of fork_in
  fork-own = ap (λ (x : Fork). x.own) is-fork

  pub fork-table : {b : Bool} → ltb base.edges f.count ≡ b → by_table base ts ≡ b
  unfolding fork_of fork_in by_table
  fork-table e = sym (ap (λ (x : Fork). ltb base.edges x.count) is-fork) ∙ e

  pub fork-lowest : f.lowest ≡ lowest_of ts
  unfolding fork_of fork_in
  fork-lowest = ap (λ (x : Fork). x.lowest) is-fork

  -- they lead to states
  module _ {n : ℕ} (m : length g.states ≡ n) where
    within : (j : ℕ) → get_or f.lowest j None ≡ slice_get ts j → IfSome (get_or f.lowest j None) (λ u. u < n)
    within j e = rw e (subst (λ (k : ℕ). IfSome (slice_get ts j) (λ u. u < k)) m (target_below (length g.states) (state_of g s) j))

    pub low_below : IfSome (get_or f.lowest 0 None) (λ u. u < n)
    low_below = within 0 (ap (λ (x : List (Option ℕ)). get_or x 0 None) fork-lowest)

    pub high-below : IfSome (get_or f.lowest 1 None) (λ u. u < n)
    high-below = within 1 (ap (λ (x : List (Option ℕ)). get_or x 1 None) fork-lowest)
