-- The merge of rule 8: its rounds keep every reading and every path, and leave no two equal states. Assumes nothing.
use Rattle.std.specs.Prelude.{Option, None}
use mathlib.Core.Path.{◌≡◌, refl, sym, ap, subst, ◌∙◌}
use mathlib.Core.Bool.{true, false}
use mathlib.Core.List.{List, map}
use mathlib.Core.Logic.{⊎_elim}
use Prim.Native.Nat.{ℕ, zero, suc, ◌+◌, ◌≤◌, ◌<◌}
use native.Mathlib.Nat.{not-suc-le-zero}
use native.Mathlib.Omega.{arith}
use borrow.Author.Tests.{eqb-true, eqb-false}
use lib.ListN.{length, get_or, length-map, get_or-eq_default}
use Rattle.lists.specs.Lists.{distinct, place, eq_option}
use Rattle.lists.proofs.Bools.{and_both, and_intro, Is, is, no-is, none-some, lt-or-le, yes-is}
use Rattle.lists.proofs.Elements.{Sound, list-sound, map_at, option-sound}
use Rattle.lists.proofs.Distinct.{Apart, distinct-all, distinct_apart, distinct_from, distinct-has, distinct-length, place-apart, place_at, place-some}
use Rattle.graph_rules.specs.Graph.{State, Graph, blank, state_of, same, FromRoot}
use Rattle.graph_rules.specs.Build.{renamed, relabel, merge_round, merges_none, merge_for, merged, one_more}
use Rattle.graph_rules.specs.Read.{graph_walker, read_graph}
use Rattle.graph_rules.proofs.Walks.{Quiet}
use Rattle.graph_rules.proofs.Views.{edge-within, out-quiet}
use Rattle.graph_rules.proofs.Rename.{Named, new-root, relabel-path, relabel-reads}

pub same-sound : Sound same
unfolding same
same-sound = record { eq = eq'; self = self' }
  where
    eq' : (a b : State) → same a b ≡ true → a ≡ b
    eq' a b e =
        let (x, y) = and_both (eq_option a.accept b.accept) _ e in
        let (z, w) = and_both (eq_option a.early b.early) _ y in
        let p = option-sound.eq a.accept b.accept x in
        let q = option-sound.eq a.early b.early z in
        let r = (list-sound eq_option option-sound).eq a.steps b.steps w in
        λ i. record { steps = r i; accept = p i; early = q i }

    self' : (a : State) → same a a ≡ true
    self' a =
        and_intro _ _ (option-sound.self a.accept) (and_intro _ _ (option-sound.self a.early) ((list-sound eq_option option-sound).self a.steps))

-- ---- a round

module _ (g : Graph) where
  abbrev pub rest : List State
  rest = distinct same g.states

  abbrev pub names : List (Option ℕ)
  names = map (λ s. place same s rest) g.states

  name_in : (s : ℕ) → s < length g.states → get_or names s None ≡ place same (state_of g s) rest
  unfolding state_of
  name_in s h = map_at (λ x. place same x rest) g.states s blank None h

  name_out : (s : ℕ) → length g.states ≤ s → get_or names s None ≡ None
  name_out s h = get_or-eq_default names None (rw (length-map g.states (λ x. place same x rest)) h)

  named : (s : ℕ) → s < length g.states → (i : ℕ) × Named names s i
  unfolding state_of
  named s h = let (i, e) = place-some same same-sound (state_of g s) rest (distinct-has same same-sound blank g.states s h) in (i, name_in s h ∙ e)

  named_in : (s i : ℕ) → Named names s i → s < length g.states
  named_in s i n = ⊎_elim (λ h. h) (λ h. absurd (none-some (sym (name_out s h) ∙ n))) (lt-or-le s (length g.states))

  pub placed : (s i : ℕ) → Named names s i → (i < length rest) × (get_or rest i blank ≡ state_of g s)
  placed s i n = place_at same same-sound blank (state_of g s) rest i (sym (name_in s (named_in s i n)) ∙ n)

  quiet : (s : ℕ) → get_or names s None ≡ None → Quiet (graph_walker g) s
  quiet s e = ⊎_elim (λ h. let (i, n) = named s h in absurd (none-some (sym e ∙ n))) (λ h. out-quiet g s h) (lt-or-le s (length g.states))

  pub round-length : length (merge_round g).states ≡ length (distinct same g.states)
  unfolding merge_round relabel
  round-length = length-map rest (renamed names)

  pub round-reads : g.root < length g.states → (text : List ℕ) → read_graph (merge_round g) text ≡ read_graph g text
  unfolding merge_round
  round-reads h text = let (i, n) = named g.root h in relabel-reads g names rest (λ s j m. (placed s j m).1) quiet i n text

  pub round-root : g.root < length g.states → (merge_round g).root < length (merge_round g).states
  unfolding merge_round
  round-root h =
      let (i, n) = named g.root h in
      rw (round-length, new-root g names rest (λ s j m. (placed s j m).1) i n) (placed g.root i n).0

  -- every state of the round is the new name of one
  pub round-onto : (i : ℕ) → i < length (merge_round g).states → (s : ℕ) × (s < length g.states) × Named names s i
  unfolding state_of
  round-onto i h =
      let h' : i < length rest = rw round-length at h in
      let (s, b, e) = distinct_from same same-sound blank g.states i h' in
      (s, b, name_in s b ∙ ap (λ (x : State). place same x rest) e ∙ place-apart same same-sound blank rest (distinct_apart same same-sound g.states) i h')

  pub round-path : ((s : ℕ) → s < length g.states → FromRoot g s) → (i : ℕ) → i < length (merge_round g).states → FromRoot (merge_round g) i
  unfolding merge_round
  round-path all i h =
      let (s, b, n) = round-onto i h in
      relabel-path g names rest (λ s j m. (placed s j m).1) (λ s c u j e m. named s (edge-within g s c u e)) s (all s b) i n

-- ---- the rounds

pub stops : (k : ℕ) (g : Graph) → merges_none g ≡ true → merge_for (suc k) g ≡ record { graph = g; rounds = 1 }
stops k g e = rw (e, merge_for)

pub goes_on : (k : ℕ) (g : Graph) → merges_none g ≡ false → merge_for (suc k) g ≡ one_more (merge_for k (merge_round g))
goes_on k g e = rw (e, merge_for)

-- what a round keeps, the rounds keep
pub rounds-keep : (P : Graph → Type 0) → ((g : Graph) → P g → P (merge_round g)) → (k : ℕ) (g : Graph) → P g → P (merge_for k g).graph
rounds-keep P keep zero g h = h
rounds-keep P keep (suc k) g h = go (is (merges_none g)) (rounds-keep P keep k (merge_round g) (keep g h))
  where
    go : Is (merges_none g) → P (merge_for k (merge_round g)).graph → P (merge_for (suc k) g).graph
    go (yes-is q) r = rw (stops k g q) h
    go (no-is q) r = rw (goes_on k g q) r

pub merged-keep : (P : Graph → Type 0) → ((g : Graph) → P g → P (merge_round g)) → (g : Graph) → P g → P (merged g).graph
unfolding merged
merged-keep P keep g = rounds-keep P keep (suc (length g.states)) g

pub merged-reads : (g : Graph) → g.root < length g.states → (text : List ℕ) → read_graph (merged g).graph text ≡ read_graph g text
merged-reads g h text =
    (merged-keep (λ x. (x.root < length x.states) × (read_graph x text ≡ read_graph g text))
    (λ x p. (round-root x p.0, round-reads x p.0 text ∙ p.1)) g (h, refl)).1

pub merged-path : (g : Graph) → ((s : ℕ) → s < length g.states → FromRoot g s)
    → (i : ℕ) → i < length (merged g).graph.states → FromRoot (merged g).graph i
merged-path g = merged-keep (λ x. (s : ℕ) → s < length x.states → FromRoot x s) round-path g

-- a round that merges has fewer states
pub round-fewer : (g : Graph) → merges_none g ≡ false → length (merge_round g).states < length g.states
unfolding merges_none
round-fewer g e =
    let a : length (distinct same g.states) ≤ length g.states = distinct-length same same-sound g.states in
    let b : length (distinct same g.states) ≡ length g.states → ⊥ = eqb-false (length (distinct same g.states)) (length g.states) e in
    let c : length (merge_round g).states ≡ length (distinct same g.states) = round-length g in
    omega (arith, b)

rounds-none : (k : ℕ) (g : Graph) → length g.states < k → merges_none (merge_for k g).graph ≡ true
rounds-none zero g h = absurd (not-suc-le-zero h)
rounds-none (suc k) g h = go (is (merges_none g)) (rounds-none k (merge_round g))
  where
    go : Is (merges_none g) → (length (merge_round g).states < k → merges_none (merge_for k (merge_round g)).graph ≡ true)
        → merges_none (merge_for (suc k) g).graph ≡ true
    go (yes-is q) f = rw (stops k g q) q
    go (no-is q) f = rw (goes_on k g q) (f (let l = round-fewer g q in omega arith))

-- the rounds were enough: one more would merge nothing
pub merged-none : (g : Graph) → merges_none (merged g).graph ≡ true
unfolding merged
merged-none g = rounds-none (suc (length g.states)) g (omega arith)

-- where a round merges nothing, no two states are equal
none_apart : (g : Graph) → merges_none g ≡ true → Apart same same-sound g.states
unfolding merges_none
none_apart g e =
    let q = eqb-true (length (distinct same g.states)) (length g.states) e in
    subst (Apart same same-sound) (distinct-all same same-sound g.states (omega arith)) (distinct_apart same same-sound g.states)

pub merged-apart : (g : Graph) → Apart same same-sound (merged g).graph.states
merged-apart g = none_apart (merged g).graph (merged-none g)

-- the rounds are at most the states merged away, and one
rounds-bound : (k : ℕ) (g : Graph) → (merge_for k g).rounds + length (merge_for k g).graph.states ≤ length g.states + 1
rounds-bound zero g = omega arith
rounds-bound (suc k) g = go (is (merges_none g)) (rounds-bound k (merge_round g))
  where
    go : Is (merges_none g) → (merge_for k (merge_round g)).rounds + length (merge_for k (merge_round g)).graph.states ≤ length (merge_round g).states + 1
        → (merge_for (suc k) g).rounds + length (merge_for (suc k) g).graph.states ≤ length g.states + 1
    go (yes-is q) f = rw (stops k g q) (omega arith)
    go (no-is q) f = rw (goes_on k g q) (let l = round-fewer g q in omega arith)

pub merged-rounds : (g : Graph) → (merged g).rounds + length (merged g).graph.states ≤ length g.states + 1
unfolding merged
merged-rounds g = rounds-bound (suc (length g.states)) g
