-- Planning on a store that holds a plan's classes under its numbers gives that plan and adds nothing: no class stands twice, so that numbers are
-- unique. Assumes nothing.
use mathlib.Core.Path.{◌≡◌, refl, sym, ap, subst, ◌∙◌}
use mathlib.Core.Bool.{Bool, true, cond, ◌&&◌}
use mathlib.Core.List.{List, [], ◌∷◌, ◌++◌, map}
use Prim.Native.Nat.{ℕ, suc, ◌+◌, ◌-◌, ◌≤◌, ◌<◌, zero-le}
use native.Mathlib.Omega.{arith}
use borrow.Author.Tests.{eqb-true, eq-eqb, ltb-true, lt-ltb, le-leb}
use lib.Dec.{eqb, leb, ltb}
use lib.ListN.{length, get_or, take, replicate}
use Rattle.lists.specs.Lists.{below, any_l, all_l, eq_list}
use Rattle.lists.proofs.Elements.{all-intro, eqb-sound, list-sound}
use Rattle.graph_rules.specs.Graph.{State, Graph, state_of}
use Rattle.classes.specs.Classes.{Class}
use Rattle.mask_store.specs.declared.MaskStore.{MaskStore}
use Rattle.mask_store.specs.Layout.{most_masks}
use Rattle.mask_store.specs.Masks.{held, number_of, among, none_twice, held_with, grown, allowed, takes}
use Rattle.lists.proofs.Bools.{Is, yes-is, no-is, is, and_both, and_intro, or_left, or_right}
use Rattle.mask_store.proofs.Numbers.{number-own, met_all}
use Rattle.mask_store.proofs.MaskLaws.{length-held, held_at}
use Rattle.mask_store.proofs.Growth.{grown-none}
use Rattle.mask_store.proofs.Search.{allowed-count}
use Rattle.edges.specs.Edges.{class_to, targets}
use Rattle.plan_rules.specs.declared.Way.{Way}
use Rattle.plan_rules.specs.declared.Way.TheVariants.{BySelf, ByTests, ByMask}
use Rattle.plan_rules.specs.Plan.{Settings, Sane, table_word, by_table, way_to, masked, self_needs, edge_needs, state_needs, needs, self_word, way_word, edge_words, plan_row, plan_words, plan_of, holds_plan, plan_size}
use Rattle.plan_rules.specs.Run.{edge_held, row_held, rows_of, is_plan}
use Rattle.lists.proofs.Flattened.{all_append, append-all, all_replicate, flat-same, flat-all, flat-map}
use Rattle.plan_rules.proofs.RunIsWalk.{length-plan_words, rows_are}
use Rattle.plan_rules.proofs.Holding.{HeldAs, holds-means}

-- ---- a state's words depend on the numbers of the classes that it needs

module _ (set : Settings) (a b : List Class) (count : ℕ) where
  -- the two number this class alike, and below the count
  abbrev pub alike : Class → Bool
  alike c = eqb (number_of a c) (number_of b c) && ltb (number_of a c) count

  alike-number : (c : Class) → all_l alike (c ∷ []) ≡ true → number_of a c ≡ number_of b c
  alike-number c h = eqb-true _ _ (and_both (eqb (number_of a c) (number_of b c)) _ (and_both (alike c) _ h).0).0

  alike-below : (c : Class) → all_l alike (c ∷ []) ≡ true → number_of a c < count
  alike-below c h = ltb-true _ _ (and_both (eqb (number_of a c) (number_of b c)) _ (and_both (alike c) _ h).0).1

  way_same : (w : Way) (c : Class) → all_l alike (masked w c) ≡ true → way_word a w c ≡ way_word b w c
  way_same BySelf c h = refl
  way_same ByTests c h = refl
  way_same ByMask c h = ap (λ (n : ℕ). suc (suc n)) (alike-number c h)

  way-held : (w : Way) (c : Class) → all_l alike (masked w c) ≡ true → edge_held count (way_word a w c) ≡ true
  way-held BySelf c h = or_left _ _ (lt-ltb 0 (2 + count) (omega arith))
  way-held ByTests c h = or_left _ _ (lt-ltb 1 (2 + count) (omega arith))
  way-held ByMask c h = or_left _ _ (lt-ltb _ (2 + count) (let l = alike-below c h in omega arith))

  module _ (st : State) (s : ℕ) (ts : List ℕ) where
    self-same : all_l alike (self_needs st s ts) ≡ true → self_word a st s ts ≡ self_word b st s ts
    unfolding self_needs self_word
    self-same h = go (is (any_l (eqb s) ts))
      where
        go : Is (any_l (eqb s) ts) → cond (any_l (eqb s) ts) (suc (number_of a (class_to st s))) 0 ≡ cond (any_l (eqb s) ts) (suc (number_of b (class_to st s))) 0
        go (yes-is q) = rw q (ap suc (alike-number (class_to st s) (rw q at h)))
        go (no-is q) = rw q

    self-held : all_l alike (self_needs st s ts) ≡ true → self_word a st s ts ≤ count
    unfolding self_needs self_word
    self-held h = go (is (any_l (eqb s) ts))
      where
        go : Is (any_l (eqb s) ts) → cond (any_l (eqb s) ts) (suc (number_of a (class_to st s))) 0 ≤ count
        go (yes-is q) = rw q (alike-below (class_to st s) (rw q at h))
        go (no-is q) = rw q zero-le

    abbrev masked_to : ℕ → List Class
    masked_to u = masked (way_to set st s u) (class_to st u)

    abbrev word_in : List Class → ℕ → ℕ
    word_in all u = way_word all (way_to set st s u) (class_to st u)

    edges-same : all_l alike (edge_needs set st s ts) ≡ true → edge_words set a st s ts ≡ edge_words set b st s ts
    unfolding edge_needs edge_words
    edges-same h = go (is (by_table set ts))
      where
        go : Is (by_table set ts) → cond (by_table set ts) (replicate set.words table_word) (map (word_in a) ts ++ replicate (set.words - length ts) 0)
            ≡ cond (by_table set ts) (replicate set.words table_word) (map (word_in b) ts ++ replicate (set.words - length ts) 0)
        go (yes-is q) = rw q
        go (no-is q) =
            let e : map (word_in a) ts ≡ map (word_in b) ts = flat-map alike masked_to (word_in a) (word_in b) (λ u. way_same (way_to set st s u) (class_to st u)) ts (rw q at h) in
            rw q (ap (λ (l : List ℕ). l ++ replicate (set.words - length ts) 0) e)

    edges-held : all_l alike (edge_needs set st s ts) ≡ true → all_l (edge_held count) (edge_words set a st s ts) ≡ true
    unfolding edge_needs edge_words
    edges-held h = go (is (by_table set ts))
      where
        go : Is (by_table set ts) → all_l (edge_held count) (cond (by_table set ts) (replicate set.words table_word) (map (word_in a) ts ++ replicate (set.words - length ts) 0)) ≡ true
        go (yes-is q) = rw q (all_replicate (edge_held count) set.words table_word (or_right (ltb table_word (2 + count)) _ refl))
        go (no-is q) =
            rw q (append-all (edge_held count) (map (word_in a) ts) (replicate (set.words - length ts) 0)
            (flat-all alike masked_to (edge_held count) (word_in a) (λ u. way-held (way_to set st s u) (class_to st u)) ts (rw q at h))
            (all_replicate (edge_held count) (set.words - length ts) 0 (or_left _ _ (lt-ltb 0 (2 + count) (omega arith)))))

  module _ (g : Graph) (s : ℕ) where
    abbrev st-of : State
    st-of = state_of g s

    abbrev ts-of : List ℕ
    ts-of = targets (length g.states) st-of

    pub row_same : all_l alike (state_needs set g s) ≡ true → plan_row set a g s ≡ plan_row set b g s
    unfolding state_needs plan_row
    row_same h =
        let q = all_append alike (self_needs st-of s ts-of) (edge_needs set st-of s ts-of) h in
        let e = self-same st-of s ts-of q.0 in
        let e' = edges-same st-of s ts-of q.1 in
        rw (e, e')

    pub row_below : all_l alike (state_needs set g s) ≡ true → row_held count (plan_row set a g s) ≡ true
    unfolding state_needs plan_row
    row_below h =
        let q = all_append alike (self_needs st-of s ts-of) (edge_needs set st-of s ts-of) h in
        and_intro (leb (self_word a st-of s ts-of) count) _ (le-leb _ _ (self-held st-of s ts-of q.0)) (edges-held st-of s ts-of q.1)

-- ---- a store that holds the plan's classes under its numbers

module _ (set : Settings) (sane : Sane set) (g : Graph) (store other : MaskStore) (fine : allowed other ≡ true) (holds : holds_plan set g store other ≡ true) where
  abbrev all : List Class
  all = held_with store (needs set g)

  once : none_twice (held other) ≡ true
  unfolding allowed
  once = (and_both (leb other.count most_masks) _ fine).1

  -- a class that is held under a number has that number
  one_number : (c : Class) → HeldAs all other c → number_of (held other) c ≡ number_of all c
  one_number c h =
      let e : get_or (held other) (number_of all c) [] ≡ c = held_at other (number_of all c) h.below-count ∙ h.same-mask in
      ap (number_of (held other)) (sym e) ∙ number-own (held other) once (number_of all c) (subst (λ (m : ℕ). number_of all c < m) (sym (length-held other)) h.below-count)

  one_alike : (c : Class) → HeldAs all other c → alike set all (held other) other.count c ≡ true
  one_alike c h = and_intro _ _ (eq-eqb _ _ (sym (one_number c h))) (lt-ltb _ _ h.below-count)

  one-among : (c : Class) → HeldAs all other c → among (held other) c ≡ true
  one-among c h = lt-ltb (number_of (held other) c) (length (held other)) (omega (arith, one_number c h, h.below-count, length-held other))

  all_alike : all_l (alike set all (held other) other.count) (needs set g) ≡ true
  all_alike = all-intro _ (needs set g) [] (λ j l. one_alike _ (holds-means set g store other holds j l))

  all_among : all_l (among (held other)) (needs set g) ≡ true
  all_among = all-intro _ (needs set g) [] (λ j l. one-among _ (holds-means set g store other holds j l))

  same-held : held_with other (needs set g) ≡ held other
  unfolding held_with
  same-held = met_all (held other) (needs set g) all_among

  -- nothing is added
  pub nothing-added : grown other (needs set g) ≡ other
  nothing-added = grown-none other (needs set g) all_among

  -- 15 does not hold
  pub room-again : takes other (needs set g) ≡ true
  unfolding takes
  room-again = and_intro (allowed other) _ fine (le-leb (length (held_with other (needs set g))) most_masks (omega (arith, ap length same-held, length-held other, allowed-count other fine)))

  words_same : plan_words set all g ≡ plan_words set (held other) g
  unfolding plan_words needs
  words_same =
      flat-same (alike set all (held other) other.count) (state_needs set g) (plan_row set all g) (plan_row set (held other) g)
      (row_same set all (held other) other.count g) (below (length g.states)) all_alike

  -- the same plan
  pub same-plan : plan_of set g other ≡ plan_of set g store
  unfolding plan_of
  same-plan = ap (λ (l : List Class). plan_words set l g) same-held ∙ sym words_same

  plan-length : length (plan_of set g store) ≡ plan_size set g
  unfolding plan_of
  plan-length = length-plan_words set sane all g

  rows-held : (rest : List ℕ) → all_l (row_held other.count) (rows_of set g (plan_of set g store ++ rest)) ≡ true
  unfolding plan_of needs
  rows-held rest =
      ap (all_l (row_held other.count)) (rows_are set sane all g rest)
      ∙ flat-all (alike set all (held other) other.count) (state_needs set g) (row_held other.count) (plan_row set all g)
      (row_below set all (held other) other.count g) (below (length g.states)) all_alike

  -- and a run takes it, whatever follows it in its buffer
  pub plan-taken : (rest : List ℕ) → is_plan set g (plan_of set g store ++ rest) other ≡ true
  unfolding is_plan
  plan-taken rest =
      let e : take (plan_size set g) (plan_of set g store ++ rest) ≡ plan_of set g store = lib.Seq.take_at (plan_of set g store) rest (plan_size set g) plan-length in
      and_intro (eq_list eqb (take (plan_size set g) (plan_of set g store ++ rest)) (plan_of set g other)) _
      (rw (e, same-plan) ((list-sound eqb eqb-sound).self (plan_of set g store))) (rows-held rest)

  pub plan-long : (rest : List ℕ) → plan_size set g ≤ length (plan_of set g store ++ rest)
  plan-long rest = omega (arith, lib.ListN.length-append (plan_of set g store) rest, plan-length)
