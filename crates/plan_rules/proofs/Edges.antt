-- What a state's plan words say of a byte: the self mask has it exactly if it leads back, and it is led on as the row says. Assumes nothing.
use Rattle.std.specs.Prelude.{Option, Some, None}
use mathlib.Core.Path.{◌≡◌, refl, sym, ap, ◌∙◌}
use mathlib.Core.Bool.{true, false, cond, false≢true}
use mathlib.Core.List.{List, [], ◌∷◌, ◌++◌, map}
use mathlib.Core.Logic.{◌⊎◌, inl, inr}
use Prim.Native.Nat.{ℕ, zero, suc, ◌+◌, ◌-◌, ◌≤◌, ◌<◌}
use native.Mathlib.Omega.{arith}
use borrow.Author.Tests.{eqb-true, eqb-false, eq-eqb, ne_eqb, leb-true, ltb-true}
use lib.Dec.{eqb, leb, ltb}
use lib.ListN.{length, get_or, drop, replicate, get_or-replicate}
use lib.Seq.{get_or-take}
use Rattle.lists.specs.Lists.{any_l, all_l, eq_option}
use Rattle.graph_rules.specs.Graph.{State, Graph, state_of, to}
use Rattle.classes.specs.Classes.{Class, has, cost}
use Rattle.mask_store.specs.declared.MaskStore.{MaskStore}
use Rattle.mask_store.specs.Layout.{most_masks}
use Rattle.mask_store.specs.Masks.{mask_has, number_of, held_with}
use Rattle.lists.proofs.Bools.{Is, yes-is, no-is, is, or_cases, or_left, or_right, and_both}
use Rattle.classes.proofs.Ranges.{comparisons-has}
use Rattle.mask_store.proofs.Numbers.{number-most}
use Rattle.mask_store.proofs.MaskLaws.{mask-class, held_number}
use Rattle.edges.specs.Edges.{bytes_of, class_to, targets}
use Rattle.edges.proofs.ByTarget.{class-flag, byte-leads, target-leads}
use Rattle.plan_rules.specs.declared.Way.{Way}
use Rattle.plan_rules.specs.declared.Way.TheVariants.{BySelf, ByTests, ByMask}
use Rattle.plan_rules.specs.Plan.{Settings, Sane, table_word, by_table, way_to, self_word, way_word, edge_words, plan_row}
use Rattle.plan_rules.specs.Run.{self_of, says_table, self_takes, edge_takes, along, led_by, edge_held, row_held}
use Rattle.lists.proofs.Flattened.{option-ne, is_member, all-mapped}

-- ---- the edges of a state

pub target-member : (n : ℕ) (st : State) (b v : ℕ) → v < n → get_or (bytes_of st) b None ≡ Some v → is_member v (targets n st) ≡ true
target-member n st b v h e = target-leads st n v h ∙ byte-leads st b v e

-- an edge's word says no table
pub no-table-word : (all : List Class) → length all ≤ most_masks → (w : Way) (c : Class) → way_word all w c < table_word
no-table-word all few BySelf c = omega arith
no-table-word all few ByTests c = omega arith
no-table-word all few ByMask c = let h : number_of all c ≤ length all = number-most all c in omega arith

-- ---- a mask that is named and held

module _ (store : MaskStore) (cs : List Class) where
  -- a mask's bit is the class's flag
  pub named-has : (c : Class) (b : ℕ) → b < 256 → number_of (held_with store cs) c < store.count → mask_has store.tables (number_of (held_with store cs) c) b ≡ has c b
  named-has c b hb h = mask-class store.tables (number_of (held_with store cs) c) b hb ∙ ap (λ (d : Class). has d b) (held_number store cs c h)

  module _ (set : Settings) (st : State) (n s : ℕ) (few : length (held_with store cs) ≤ most_masks) where
    abbrev all : List Class
    all = held_with store cs

    abbrev ts : List ℕ
    ts = targets n st

    abbrev word : ℕ → ℕ
    word u = way_word all (way_to set st s u) (class_to st u)

    module _ (b : ℕ) (byte : b < 256) where
      abbrev o : Option ℕ
      o = get_or (bytes_of st) b None

      -- the test that the plan names for an edge tells whether the byte leads along it
      edge-takes : (u : ℕ) → (o ≡ Some s → ⊥) → edge_held store.count (word u) ≡ true → edge_takes store.tables st u (word u) b ≡ eq_option (Some u) o
      unfolding way_to
      edge-takes u ne held = go (is (eqb u s)) (is (ltb set.cost (cost (class_to st u))))
        where
          go : Is (eqb u s) → Is (ltb set.cost (cost (class_to st u))) → edge_takes store.tables st u (word u) b ≡ eq_option (Some u) o
          go (yes-is q) x = rw q (sym (option-ne u o (λ e. ne (e ∙ ap {B = Option ℕ} Some (eqb-true u s q)))))
          go (no-is q) (no-is p) = rw (q, p) (comparisons-has (class_to st u) b ∙ class-flag st u b)
          go (no-is q) (yes-is p) =
              rw (q, p) (named-has (class_to st u) b byte (below-count (or_cases _ _ (rw (q, p) at held))) ∙ class-flag st u b)
            where
              below-count : (ltb (suc (suc (number_of all (class_to st u)))) (2 + store.count) ≡ true) ⊎ (eqb (suc (suc (number_of all (class_to st u)))) table_word ≡ true)
                  → number_of all (class_to st u) < store.count
              below-count (inl h) = let l : suc (suc (number_of all (class_to st u))) < 2 + store.count = ltb-true _ _ h in omega arith
              below-count (inr h) =
                  let e : suc (suc (number_of all (class_to st u))) ≡ table_word = eqb-true _ _ h in
                  let m : number_of all (class_to st u) ≤ length all = number-most all (class_to st u) in
                  absurd (omega arith)

      -- so of the edges the one is found that the row has
      along-none : (l rest : List ℕ) → ((u : ℕ) → is_member u l ≡ true → edge_takes store.tables st u (word u) b ≡ eq_option (Some u) o) → o ≡ None
          → along store.tables st l (map word l ++ rest) b ≡ None
      along-none [] rest f e = refl
      along-none (u ∷ l) rest f e =
          let t : edge_takes store.tables st u (word u) b ≡ false = f u (or_left _ _ (eq-eqb u u refl)) ∙ ap (eq_option (Some u)) e in
          rw (t, along) (along-none l rest (λ v m. f v (or_right (eqb v u) _ m)) e)

      along-some : (l rest : List ℕ) → ((u : ℕ) → is_member u l ≡ true → edge_takes store.tables st u (word u) b ≡ eq_option (Some u) o) → (v : ℕ) → o ≡ Some v
          → is_member v l ≡ true → along store.tables st l (map word l ++ rest) b ≡ Some v
      along-some [] rest f v e m = absurd (false≢true m)
      along-some (u ∷ l) rest f v e m = go (is (eqb v u)) (along-some l rest (λ x y. f x (or_right (eqb x u) _ y)) v e)
        where
          test : edge_takes store.tables st u (word u) b ≡ eq_option (Some u) (Some v)
          test = f u (or_left _ _ (eq-eqb u u refl)) ∙ ap (eq_option (Some u)) e

          go : Is (eqb v u) → (is_member v l ≡ true → along store.tables st l (map word l ++ rest) b ≡ Some v) → along store.tables st (u ∷ l) (word u ∷ (map word l ++ rest)) b ≡ Some v
          go (yes-is q) g =
              let t : edge_takes store.tables st u (word u) b ≡ true = test ∙ eq-eqb u v (sym (eqb-true v u q)) in
              rw (t, along) (ap {B = Option ℕ} Some (sym (eqb-true v u q)))
          go (no-is q) g =
              let t : edge_takes store.tables st u (word u) b ≡ false = test ∙ ne_eqb u v (λ p. eqb-false v u q (sym p)) in
              rw (t, along) (g (rw q at m))

      -- the edge words, where no table is used
      edges-led : (rest : List ℕ) → ((v : ℕ) → o ≡ Some v → v < n) → (o ≡ Some s → ⊥) → all_l (edge_held store.count) (map word ts ++ rest) ≡ true
          → along store.tables st ts (map word ts ++ rest) b ≡ o
      edges-led rest closed ne held = go o refl
        where
          tests : (u : ℕ) → is_member u ts ≡ true → edge_takes store.tables st u (word u) b ≡ eq_option (Some u) o
          tests u m = edge-takes u ne (all-mapped (edge_held store.count) word ts rest u held m)

          go : (p : Option ℕ) → o ≡ p → along store.tables st ts (map word ts ++ rest) b ≡ o
          go None e = along-none ts rest tests e ∙ sym e
          go (Some v) e = along-some ts rest tests v e (target-member n st b v (closed v e) e) ∙ sym e

      -- the self word
      self-led : ((v : ℕ) → o ≡ Some v → v < n) → self_word all st s ts ≤ store.count → self_takes store.tables (self_word all st s ts) b ≡ eq_option (Some s) o
      unfolding self_word
      self-led closed h = go (is (any_l (eqb s) ts))
        where
          go : Is (any_l (eqb s) ts) → self_takes store.tables (cond (any_l (eqb s) ts) (suc (number_of all (class_to st s))) 0) b ≡ eq_option (Some s) o
          go (yes-is q) =
              let l : suc (number_of all (class_to st s)) ≤ store.count = rw q at h in
              rw q (named-has (class_to st s) b byte l ∙ class-flag st s b)
          go (no-is q) = rw q (sym (option-ne s o (λ e. false≢true (sym q ∙ target-member n st b s (closed s e) e))))

-- ---- a state of a graph, and its row of the plan

module _ (set : Settings) (sane : Sane set) (g : Graph) (store : MaskStore) (cs : List Class) (few : length (held_with store cs) ≤ most_masks)
    (closed : (s c u : ℕ) → to g s c ≡ Some u → u < length g.states) (s b : ℕ) (byte : b < 256) where
  abbrev row : List ℕ
  row = plan_row set (held_with store cs) g s

  byte_at : get_or (bytes_of (state_of g s)) b None ≡ to g s b
  unfolding to
  byte_at = get_or-take 256 (state_of g s).steps b None byte

  closed-here : (v : ℕ) → get_or (bytes_of (state_of g s)) b None ≡ Some v → v < length g.states
  closed-here v e = closed s b v (sym byte_at ∙ e)

  -- the self mask has the byte exactly if it leads back
  pub row-self : row_held store.count row ≡ true → self_takes store.tables (self_of row) b ≡ eq_option (Some s) (to g s b)
  unfolding plan_row
  row-self h =
      self-led store cs set (state_of g s) (length g.states) s few b byte closed-here (leb-true _ _ (and_both (leb (self_of row) store.count) _ h).0)
      ∙ ap (eq_option (Some s)) byte_at

  led-table : (w : List ℕ) → says_table w ≡ true → led_by g w store.tables s b ≡ to g s b
  unfolding led_by
  led-table w e = rw (e, led_by)

  led-edges : (w : List ℕ) → says_table w ≡ false
      → led_by g w store.tables s b ≡ along store.tables (state_of g s) (targets (length g.states) (state_of g s)) (drop 1 w) b
  unfolding led_by
  led-edges w e = rw (e, led_by)

  abbrev words-here : ℕ → ℕ
  words-here u = word store cs set (state_of g s) (length g.states) s few u

  abbrev ts-here : List ℕ
  ts-here = targets (length g.states) (state_of g s)

  first_small : (l : List ℕ) (m : ℕ) → get_or (map words-here l ++ replicate m 0) 0 0 < table_word
  first_small [] zero = omega arith
  first_small [] (suc m) = omega arith
  first_small (u ∷ l) m = no-table-word (held_with store cs) few (way_to set (state_of g s) s u) (class_to (state_of g s) u)

  -- and any other byte is led on as the graph's row says
  pub row-led : row_held store.count row ≡ true → (to g s b ≡ Some s → ⊥) → led_by g row store.tables s b ≡ to g s b
  unfolding plan_row edge_words
  row-led h ne = go (is (by_table set ts-here)) (and_both (leb (self_of row) store.count) _ h).1
    where
      first : ℕ
      first = self_word (held_with store cs) (state_of g s) s ts-here

      plain : List ℕ
      plain = map words-here ts-here ++ replicate (set.words - length ts-here) 0

      go : Is (by_table set ts-here) → all_l (edge_held store.count) (drop 1 row) ≡ true → led_by g row store.tables s b ≡ to g s b
      go (yes-is q) a =
          let e : row ≡ first ∷ replicate set.words table_word = rw q in
          let t : says_table (first ∷ replicate set.words table_word) ≡ true = eq-eqb _ table_word (get_or-replicate set.words 0 table_word 0 sane.some_word) in
          ap (λ (r : List ℕ). led_by g r store.tables s b) e ∙ led-table (first ∷ replicate set.words table_word) t
      go (no-is q) a =
          let e : row ≡ first ∷ plain = rw q in
          let small : get_or plain 0 0 < table_word = first_small ts-here (set.words - length ts-here) in
          let t : says_table (first ∷ plain) ≡ false = ne_eqb (get_or plain 0 0) table_word (λ x. omega arith) in
          let a' : all_l (edge_held store.count) plain ≡ true = rw q at a in
          ap (λ (r : List ℕ). led_by g r store.tables s b) e
          ∙ led-edges (first ∷ plain) t
          ∙ edges-led store cs set (state_of g s) (length g.states) s few b byte (replicate (set.words - length ts-here) 0) closed-here (λ x. ne (sym byte_at ∙ x)) a'
          ∙ byte_at
