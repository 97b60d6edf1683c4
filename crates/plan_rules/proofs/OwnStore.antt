-- The store that planning leaves is allowed, and holds the plan's classes under its numbers. Assumes nothing.
use mathlib.Core.Path.{◌≡◌, refl}
use mathlib.Core.Bool.{Bool, true, false, cond}
use mathlib.Core.List.{List, [], ◌∷◌, flat_map}
use Prim.Native.Nat.{ℕ, ◌≤◌, ◌<◌}
use native.Mathlib.Omega.{arith}
use borrow.Author.Tests.{eq-eqb}
use lib.Dec.{eqb}
use lib.ListN.{length}
use Rattle.lists.specs.Lists.{below, any_l, all_l}
use Rattle.lists.proofs.Bools.{and_intro}
use Rattle.lists.proofs.Elements.{all-at}
use Rattle.graph_rules.specs.Graph.{State, Graph, state_of, graph_from, graph_fits}
use Rattle.classes.specs.Classes.{Class}
use Rattle.mask_store.specs.declared.MaskStore.{MaskStore}
use Rattle.mask_store.specs.Layout.{store_size, most_masks}
use Rattle.mask_store.specs.Masks.{among, held_with, grown, allowed, takes}
use Rattle.mask_store.proofs.Growth.{whole, given-held, all-given}
use Rattle.mask_store.proofs.Several.{takes-few, takes-allowed}
use Rattle.edges.specs.Edges.{class_to, targets}
use Rattle.edges.proofs.ByTarget.{class-whole}
use Rattle.plan_rules.specs.declared.Way.{Way}
use Rattle.plan_rules.specs.declared.Way.TheVariants.{BySelf, ByTests, ByMask}
use Rattle.plan_rules.specs.Plan.{Settings, by_table, way_to, masked, self_needs, edge_needs, state_needs, needs, holds_plan}
use Rattle.lists.proofs.Flattened.{append-all, all-flat, all-flat-tab}
use Rattle.graph_rules.specs.Layout.{step_count}
use Rattle.graph_rules.proofs.Flat.{from-length, from-width}
use Rattle.graph_rules.proofs.Taken.{taken-long}
use Rattle.plan_rules.proofs.Holding.{HeldAs, holds-shown}

-- ---- the classes that a state needs have 256 flags, if it has all its steps

module _ (set : Settings) (st : State) (width : length st.steps ≡ step_count) where
  one-whole : (u : ℕ) → all_l whole (class_to st u ∷ []) ≡ true
  one-whole u = and_intro (whole (class_to st u)) _ (eq-eqb _ 256 (class-whole st (omega arith) u)) refl

  pub masked-whole : (w : Way) (u : ℕ) → all_l whole (masked w (class_to st u)) ≡ true
  masked-whole BySelf u = refl
  masked-whole ByTests u = refl
  masked-whole ByMask u = one-whole u

  pub own-whole : (s : ℕ) (t : Bool) → all_l whole (cond t (class_to st s ∷ []) []) ≡ true
  own-whole s true = one-whole s
  own-whole s false = refl

  edges-whole : (s : ℕ) (ts : List ℕ) → all_l whole (edge_needs set st s ts) ≡ true
  unfolding edge_needs
  edges-whole s ts = go (by_table set ts)
    where
      go : (t : Bool) → all_l whole (cond t [] (flat_map (λ u. masked (way_to set st s u) (class_to st u)) ts)) ≡ true
      go true = refl
      go false = all-flat whole (λ u. masked (way_to set st s u) (class_to st u)) (λ u. masked-whole (way_to set st s u) u) ts

-- ---- of a legal graph

module _ (set : Settings) (graph : List ℕ) (legal : graph_fits graph ≡ true) where
  abbrev g : Graph
  g = graph_from graph

  state-whole : (s : ℕ) → s < length g.states → all_l whole (state_needs set g s) ≡ true
  unfolding state_needs self_needs
  state-whole s h =
      let w = from-width graph (taken-long graph legal) s (omega (arith, from-length graph)) in
      let ts = targets (length g.states) (state_of g s) in
      append-all whole (self_needs (state_of g s) s ts) _ (own-whole set (state_of g s) w s (any_l (eqb s) ts)) (edges-whole set (state_of g s) w s ts)

  -- of the states below s
  pub whole_below : (s : ℕ) → s ≤ length g.states → all_l whole (flat_map (state_needs set g) (below s)) ≡ true
  whole_below s h = all-flat-tab whole (state_needs set g) 0 s (λ u k. state-whole u (omega arith))

  pub needs-whole : all_l whole (needs set g) ≡ true
  unfolding needs
  needs-whole = whole_below (length g.states) (omega arith)

  module _ (store : MaskStore) (size : length store.tables ≡ store_size) (fine : takes store (needs set g) ≡ true) where
    few : length (held_with store (needs set g)) ≤ most_masks
    few = takes-few store (needs set g) fine

    pub own-allowed : allowed (grown store (needs set g)) ≡ true
    own-allowed = takes-allowed store (needs set g) size needs-whole fine

    one-held : (c : Class) → among (held_with store (needs set g)) c ≡ true → HeldAs (held_with store (needs set g)) (grown store (needs set g)) c
    one-held c h = let (l, e) = given-held store (needs set g) size needs-whole few c h in record { below-count = l; same-mask = e }

    pub own-holds : holds_plan set g store (grown store (needs set g)) ≡ true
    own-holds =
        holds-shown set g store (grown store (needs set g))
        (λ j l. one-held _ (all-at (among (held_with store (needs set g))) (needs set g) j [] (all-given store (needs set g) size needs-whole few) l))
