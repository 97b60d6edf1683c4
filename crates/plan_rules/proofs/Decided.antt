-- Whether words are a run's plan, as it is decided: nothing had to be added to the store, and the words are those of the classes that it holds.
-- Assumes nothing.
use mathlib.Core.Path.{◌≡◌, refl, sym, ap, ◌∙◌}
use mathlib.Core.Bool.{Bool, true, cond, ◌&&◌}
use mathlib.Core.List.{List, [], ◌∷◌, ◌++◌, append-nil}
use mathlib.Core.Logic.{◌⊎◌, inl, inr}
use Prim.Native.Nat.{ℕ, suc, ◌+◌, ◌-◌, ◌≤◌, ◌<◌}
use native.Mathlib.Omega.{arith}
use borrow.Author.Tests.{eqb-true, eq-eqb, ltb-true, lt-ltb, leb-true}
use lib.Dec.{eqb, leb, ltb}
use lib.ListN.{length, take, drop, replicate, length-append, take-append-drop}
use Rattle.lists.specs.Lists.{below, any_l, all_l, eq_list}
use Rattle.lists.proofs.Bools.{Is, yes-is, no-is, is, and_both, and_intro, or_cases, bool-ext}
use Rattle.lists.proofs.Elements.{eqb-sound, list-sound, length-nil}
use Rattle.graph_rules.specs.Graph.{State, Graph, state_of}
use Rattle.classes.specs.Classes.{Class}
use Rattle.mask_store.specs.declared.MaskStore.{MaskStore}
use Rattle.mask_store.specs.Layout.{most_masks}
use Rattle.mask_store.specs.Masks.{held, number_of, among, met, held_with, takes}
use Rattle.mask_store.proofs.Numbers.{number-most, met-split, met-front, met_all, met_has}
use Rattle.mask_store.proofs.MaskLaws.{length-held}
use Rattle.mask_store.proofs.Several.{takes-few}
use Rattle.edges.specs.Edges.{class_to, targets}
use Rattle.plan_rules.specs.declared.Way.{Way}
use Rattle.plan_rules.specs.declared.Way.TheVariants.{BySelf, ByTests, ByMask}
use Rattle.plan_rules.specs.Plan.{Settings, Sane, by_table, way_to, masked, self_needs, edge_needs, state_needs, needs, self_word, way_word, edge_words, plan_row, plan_words, plan_of, plan_size, table_word}
use Rattle.plan_rules.specs.Run.{edge_held, row_held, rows_of, is_plan}
use Rattle.lists.proofs.Flattened.{append-all, all_weaker, all-flat-tab, mapped-flat, flat-all}
use Rattle.plan_rules.proofs.RunIsWalk.{rows_are, row-held}
use Rattle.plan_rules.proofs.Again.{alike, row_below}

-- ---- where a row names only masks below the count, the classes that its state needs have numbers below it

module _ (set : Settings) (all : List Class) (few : length all ≤ most_masks) (count : ℕ) where
  abbrev pub numbered : Class → Bool
  numbered c = ltb (number_of all c) count

  way-names : (w : Way) (c : Class) → edge_held count (way_word all w c) ≡ true → all_l numbered (masked w c) ≡ true
  way-names BySelf c h = refl
  way-names ByTests c h = refl
  way-names ByMask c h = and_intro (numbered c) _ (lt-ltb (number_of all c) count (go (or_cases _ _ h))) refl
    where
      go : (ltb (suc (suc (number_of all c))) (2 + count) ≡ true) ⊎ (eqb (suc (suc (number_of all c))) table_word ≡ true) → number_of all c < count
      go (inl l) = let b : suc (suc (number_of all c)) < 2 + count = ltb-true _ _ l in omega arith
      go (inr e) = let b : suc (suc (number_of all c)) ≡ table_word = eqb-true _ _ e in absurd (omega (arith, number-most all c))

  module _ (st : State) (s : ℕ) (ts : List ℕ) where
    self-names : self_word all st s ts ≤ count → all_l numbered (self_needs st s ts) ≡ true
    unfolding self_needs self_word
    self-names h = go (is (any_l (eqb s) ts))
      where
        go : Is (any_l (eqb s) ts) → all_l numbered (cond (any_l (eqb s) ts) (class_to st s ∷ []) []) ≡ true
        go (yes-is q) = let l : suc (number_of all (class_to st s)) ≤ count = rw q at h in rw q (and_intro (numbered (class_to st s)) _ (lt-ltb _ _ l) refl)
        go (no-is q) = rw q

    edges-name : all_l (edge_held count) (edge_words set all st s ts) ≡ true → all_l numbered (edge_needs set st s ts) ≡ true
    unfolding edge_needs edge_words
    edges-name h = go (is (by_table set ts))
      where
        masked_to : ℕ → List Class
        masked_to u = masked (way_to set st s u) (class_to st u)

        word : ℕ → ℕ
        word u = way_word all (way_to set st s u) (class_to st u)

        go : Is (by_table set ts) → all_l numbered (edge_needs set st s ts) ≡ true
        go (yes-is q) = rw q
        go (no-is q) =
            rw q (mapped-flat numbered masked_to (edge_held count) word (λ u. way-names (way_to set st s u) (class_to st u)) ts (replicate (set.words - length ts) 0) (rw q at h))

  pub row-names : (g : Graph) (s : ℕ) → row_held count (plan_row set all g s) ≡ true → all_l numbered (state_needs set g s) ≡ true
  unfolding state_needs plan_row
  row-names g s h =
      let st : State = state_of g s in
      let ts : List ℕ = targets (length g.states) st in
      let b = and_both (leb (self_word all st s ts) count) _ h in
      append-all numbered (self_needs st s ts) (edge_needs set st s ts) (self-names st s ts (leb-true _ _ b.0)) (edges-name st s ts b.1)

-- ---- what is decided

module _ (set : Settings) (sane : Sane set) (g : Graph) (words : List ℕ) (store : MaskStore) where
  abbrev all : List Class
  all = held_with store (needs set g)

  -- where every class needed is among those held, none is added
  among-held : all_l (among (held store)) (needs set g) ≡ true → all ≡ held store
  unfolding held_with
  among-held = met_all (held store) (needs set g)

  -- and where none is added, they are
  none-added : length all ≡ store.count → all_l (among (held store)) (needs set g) ≡ true
  unfolding held_with
  none-added e =
      let (m, split) = met-split (held store) (needs set g) in
      let short : length m ≡ 0 = omega (arith, ap length split, length-append (held store) m, length-held store) in
      let same : met (held store) (needs set g) ≡ held store = split ∙ ap (λ (l : List Class). held store ++ l) (length-nil m short) ∙ append-nil (held store) in
      ap (λ (l : List Class). all_l (among l) (needs set g)) (sym same) ∙ met_has (held store) (needs set g)

  -- the classes of a plan whose masks are held
  plan-among : takes store (needs set g) ≡ true → is_plan set g words store ≡ true → all_l (among (held store)) (needs set g) ≡ true
  unfolding needs held_with
  plan-among t h = all_weaker (numbered set all few store.count) (among (held store)) one (needs set g) names
    where
      few : length all ≤ most_masks
      few = takes-few store (needs set g) t

      names : all_l (numbered set all few store.count) (needs set g) ≡ true
      names =
          all-flat-tab (numbered set all few store.count) (state_needs set g) 0 (length g.states)
          (λ s b. row-names set all few store.count g s (row-held set sane g store words h s (omega arith)))

      one : (c : Class) → numbered set all few store.count c ≡ true → among (held store) c ≡ true
      one c k =
          let l : number_of all c < store.count = ltb-true _ _ k in
          let e : number_of (held store) c ≡ number_of all c = met-front (held store) (needs set g) c (omega (arith, length-held store)) in
          lt-ltb (number_of (held store) c) (length (held store)) (omega (arith, length-held store))

  -- words that are those of the classes held, where these are all: each mask that they name is held
  rows-held : all_l (among (held store)) (needs set g) ≡ true → (rest : List ℕ) → all_l (row_held store.count) (rows_of set g (plan_words set (held store) g ++ rest)) ≡ true
  unfolding needs
  rows-held a rest =
      ap (all_l (row_held store.count)) (rows_are set sane (held store) g rest)
      ∙ flat-all same (state_needs set g) (row_held store.count) (plan_row set (held store) g)
      (row_below set (held store) (held store) store.count g) (below (length g.states))
      (all_weaker (among (held store)) same one (needs set g) a)
    where
      same : Class → Bool
      same = alike set (held store) (held store) store.count

      one : (c : Class) → among (held store) c ≡ true → same c ≡ true
      one c h =
          let l : number_of (held store) c < length (held store) = ltb-true _ _ h in
          let k : number_of (held store) c < store.count = omega (arith, length-held store) in
          let n = number_of (held store) c in
          and_intro (eqb n n) (ltb n store.count) (eq-eqb n n refl) (lt-ltb n store.count k)

  abbrev begun : List Class → Bool
  begun l = eq_list eqb (take (plan_size set g) words) (plan_words set l g)

  pub plan-decided : takes store (needs set g) ≡ true
      → is_plan set g words store ≡ (eqb (length (held_with store (needs set g))) store.count && eq_list eqb (take (plan_size set g) words) (plan_words set (held store) g))
  unfolding is_plan plan_of
  plan-decided t = bool-ext _ _ there back
    where
      there : is_plan set g words store ≡ true → (eqb (length all) store.count && begun (held store)) ≡ true
      there h =
          let e : all ≡ held store = among-held (plan-among t h) in
          and_intro (eqb (length all) store.count) _ (eq-eqb _ _ (ap length e ∙ length-held store)) (ap begun (sym e) ∙ (and_both (begun all) _ h).0)

      back : (eqb (length all) store.count && begun (held store)) ≡ true → is_plan set g words store ≡ true
      back h =
          let b = and_both (eqb (length all) store.count) _ h in
          let a : all_l (among (held store)) (needs set g) ≡ true = none-added (eqb-true _ _ b.0) in
          let e : all ≡ held store = among-held a in
          let w : take (plan_size set g) words ≡ plan_words set (held store) g = (list-sound eqb eqb-sound).eq _ _ b.1 in
          let split : words ≡ plan_words set (held store) g ++ drop (plan_size set g) words =
          sym (take-append-drop (plan_size set g) words) ∙ ap (λ (l : List ℕ). l ++ drop (plan_size set g) words) w in
          and_intro (begun all) _ (ap begun e ∙ b.1)
          (ap (λ (l : List ℕ). all_l (row_held store.count) (rows_of set g l)) split ∙ rows-held a (drop (plan_size set g) words))
