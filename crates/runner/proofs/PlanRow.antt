-- The plan words of a state: the self word, a table's word or the words of its edges, and what these name. Assumes nothing.
use mathlib.Core.Path.{◌≡◌, refl, sym, ap, subst, ◌∙◌}
use mathlib.Core.Bool.{true, false}
use mathlib.Core.List.{List, [], ◌∷◌, ◌++◌, map}
use mathlib.Core.Logic.{◌⊎◌, inl, inr}
use Prim.Native.Nat.{ℕ, zero, suc, ◌+◌, ◌-◌, ◌≤◌, ◌<◌}
use native.Mathlib.Omega.{arith}
use native.Mathlib.Nat.{not-suc-le-zero, le_of_suc-le-suc}
use borrow.Author.Tests.{eqb-true, eq-eqb, ne_eqb, leb-true, ltb-true}
use lib.Dec.{eqb, leb, ltb}
use lib.Seq.{get_or-drop}
use lib.ListN.{length, get_or, drop, replicate, take-append-drop}
use Rattle.lists.proofs.Bools.{Is, yes-is, no-is, is, and_both, or_cases, lt-or-le}
use Rattle.lists.proofs.Elements.{all-at}
use Rattle.lists.proofs.Pieces.{pieces-length, pieces-at}
use Rattle.graph_rules.specs.Graph.{Graph, state_of, to}
use Rattle.classes.specs.Classes.{Class}
use Rattle.mask_store.specs.Layout.{most_masks}
use Rattle.edges.specs.Edges.{class_to}
use Rattle.plan_rules.specs.declared.Way.{Way}
use Rattle.plan_rules.specs.declared.Way.TheVariants.{BySelf, ByTests, ByMask}
use Rattle.plan_rules.specs.Plan.{base, table_word, row_size, own_place, edge_place, by_table, way_to, way_word, edge_words, plan_row, plan_size}
use Rattle.plan_rules.specs.Run.{self_of, says_table, along, led_by, edge_held, row_held, rows_of}
use Rattle.plan_rules.proofs.Edges.{no-table-word}
use Rattle.plan_rules.proofs.RunIsWalk.{base-sane, row-length, row_at, rows_are}
use Rattle.std.specs.Prelude.{Some, None, slice_get}
use Rattle.std.proofs.lemmas.Option.{slice_get-get_or, slice_get_within, get_or_from_slice_get}
use Rattle.runner.specs.Prepared.{targets_of, PlanOn}

three : (l : List ℕ) → length l ≡ 3 → drop 1 l ≡ get_or l 1 0 ∷ get_or l 2 0 ∷ []
three [] e = absurd (omega arith)
three (a ∷ []) e = absurd (omega arith)
three (a ∷ b ∷ []) e = absurd (omega arith)
three (a ∷ b ∷ c ∷ []) e = refl
three (a ∷ b ∷ c ∷ d ∷ l) e = absurd (omega arith)

-- words and, where they end, zeros
module _ (f : ℕ → ℕ) (m : ℕ) where
  padded-in : (ts : List ℕ) (j : ℕ) → j < length ts → get_or (map f ts ++ replicate m 0) j 0 ≡ f (get_or ts j 0)
  padded-in [] j h = absurd (not-suc-le-zero h)
  padded-in (u ∷ ts) zero h = refl
  padded-in (u ∷ ts) (suc j) h = padded-in ts j (le_of_suc-le-suc h)

  padded-out : (ts : List ℕ) (j : ℕ) → length ts ≤ j → get_or (map f ts ++ replicate m 0) j 0 ≡ 0
  padded-out [] j h = zeros m j
    where
      zeros : (m j : ℕ) → get_or (replicate {A = ℕ} m 0) j 0 ≡ 0
      zeros zero j = refl
      zeros (suc m) zero = refl
      zeros (suc m) (suc j) = zeros m j
  padded-out (u ∷ ts) zero h = absurd (not-suc-le-zero h)
  padded-out (u ∷ ts) (suc j) h = padded-out ts j (le_of_suc-le-suc h)

-- what an edge's word says
one-tests : (all : List Class) (w : Way) (c : Class) → way_word all w c ≡ 1 → w ≡ ByTests
one-tests all BySelf c e = absurd (omega arith)
one-tests all ByTests c e = refl
one-tests all ByMask c e = absurd (omega arith)

module _ (g : Graph) (words : List ℕ) (p : PlanOn g words) (s : ℕ) (h : s < length g.states) where
  abbrev row : List ℕ
  row = get_or (rows_of base g words) s []

  abbrev ts : List ℕ
  ts = targets_of g s

  abbrev word : ℕ → ℕ
  word u = way_word p.all (way_to base (state_of g s) s u) (class_to (state_of g s) u)

  row_is : row ≡ plan_row base p.all g s
  row_is =
      ap (λ (r : List (List ℕ)). get_or r s [])
      (ap (rows_of base g) (sym (take-append-drop (plan_size base g) words) ∙ ap (λ (l : List ℕ). l ++ drop (plan_size base g) words) p.words_are)
      ∙ rows_are base base-sane p.all g (drop (plan_size base g) words))
      ∙ row_at base base-sane p.all g s h

  row_word : (j : ℕ) → j < row_size base → get_or row j 0 ≡ get_or words (own_place base s + j) 0
  unfolding rows_of
  row_word j l = pieces-at (row_size base) (length g.states) words s j 0 h l

  row-edges : drop 1 row ≡ get_or words (edge_place base s 0) 0 ∷ get_or words (edge_place base s 1) 0 ∷ []
  row-edges =
      three row (ap length row_is ∙ row-length base base-sane p.all g s)
      ∙ ap (λ (x : ℕ). x ∷ get_or row 2 0 ∷ []) (row_word 1 (omega arith)) ∙ ap (λ (x : ℕ). get_or words (edge_place base s 0) 0 ∷ x ∷ []) (row_word 2 (omega arith))

  row-held : row_held most_masks row ≡ true
  unfolding rows_of
  row-held = all-at (row_held most_masks) (rows_of base g words) s [] p.held (subst (λ (m : ℕ). s < m) (sym (pieces-length (row_size base) (length g.states) words)) h)

  pub self-word : self_of row ≡ get_or words (own_place base s) 0
  self-word = row_word 0 (omega arith) ∙ ap (λ (x : ℕ). get_or words x 0) (omega arith)

  pub self-few : get_or words (own_place base s) 0 ≤ most_masks
  self-few = subst (λ (x : ℕ). x ≤ most_masks) self-word (leb-true _ _ (and_both (leb (self_of row) most_masks) _ row-held).0)

  -- ---- a table

  pub led-table : (tables : List ℕ) (b : ℕ) → get_or words (edge_place base s 0) 0 ≡ table_word → led_by g row tables s b ≡ to g s b
  unfolding led_by
  led-table tables b e = let t : says_table row ≡ true = eq-eqb _ _ (row_word 1 (omega arith) ∙ e) in rw (t, led_by)

  -- ---- edges

  module _ (plain : get_or words (edge_place base s 0) 0 ≡ table_word → ⊥) where
    pub led-edges : (tables : List ℕ) (b : ℕ) → led_by g row tables s b ≡ along tables (state_of g s) ts (get_or words (edge_place base s 0) 0 ∷ get_or words (edge_place base s 1) 0 ∷ []) b
    unfolding led_by
    led-edges tables b =
        let t : says_table row ≡ false = ne_eqb _ _ (λ e. plain (sym (row_word 1 (omega arith)) ∙ e)) in
        let e : led_by g row tables s b ≡ along tables (state_of g s) ts (drop 1 row) b = rw (t, led_by) in
        e ∙ ap (λ (l : List ℕ). along tables (state_of g s) ts l b) row-edges

    pub no_table : by_table base ts ≡ false
    unfolding plan_row edge_words
    no_table = go (is (by_table base ts))
      where
        first : by_table base ts ≡ true → get_or (plan_row base p.all g s) 1 0 ≡ table_word
        first q = rw q

        go : Is (by_table base ts) → by_table base ts ≡ false
        go (no-is q) = q
        go (yes-is q) = absurd (plain (sym (row_word 1 (omega arith)) ∙ ap (λ (r : List ℕ). get_or r 1 0) row_is ∙ first q))

    edge-word : (j : ℕ) → j < base.edges → get_or words (edge_place base s j) 0 ≡ get_or (map word ts ++ replicate (base.words - length ts) 0) j 0
    unfolding plan_row edge_words
    edge-word j l =
        let e : get_or (plan_row base p.all g s) (suc j) 0 ≡ get_or (map word ts ++ replicate (base.words - length ts) 0) j 0 = rw no_table in
        sym (row_word (suc j) (omega arith)) ∙ ap (λ (r : List ℕ). get_or r (suc j) 0) row_is ∙ e

    pub edge-absent : (j : ℕ) → j < base.edges → length ts ≤ j → get_or words (edge_place base s j) 0 ≡ 0
    edge-absent j l a = edge-word j l ∙ padded-out word (base.words - length ts) ts j a

    pub edge_few : (j : ℕ) → j < base.edges → get_or words (edge_place base s j) 0 < 2 + most_masks
    edge_few j l = go (lt-or-le j (length ts)) (or_cases (ltb w (2 + most_masks)) _ held)
      where
        w : ℕ
        w = get_or words (edge_place base s j) 0

        held : edge_held most_masks w ≡ true
        held =
            let z : suc j ≡ 1 + j = omega arith in
            ap (edge_held most_masks) (sym (row_word (suc j) (omega arith)) ∙ ap (λ (x : ℕ). get_or row x 0) z ∙ sym (get_or-drop 1 row j 0))
            ∙ all-at (edge_held most_masks) (drop 1 row) j 0 (and_both (leb (self_of row) most_masks) _ row-held).1 (rw row-edges l)

        go : (j < length ts) ⊎ (length ts ≤ j) → (ltb w (2 + most_masks) ≡ true) ⊎ (eqb w table_word ≡ true) → w < 2 + most_masks
        go a (inl b) = ltb-true _ _ b
        go (inl a) (inr b) =
            let e : w ≡ word (get_or ts j 0) = edge-word j l ∙ padded-in word (base.words - length ts) ts j a in
            let k : word (get_or ts j 0) < table_word = no-table-word p.all p.few (way_to base (state_of g s) s (get_or ts j 0)) (class_to (state_of g s) (get_or ts j 0)) in
            let z : w ≡ table_word = eqb-true _ _ b in
            absurd (omega arith)
        go (inr a) (inr b) = let e = edge-absent j l a in omega arith

    -- the word of an edge that is not there, and of one that is tested by comparisons
    pub edge-missing : (j : ℕ) → j < base.edges → slice_get ts j ≡ None → get_or words (edge_place base s j) 0 ≡ 0
    edge-missing j l e = go (lt-or-le j (length ts))
      where
        go : (j < length ts) ⊎ (length ts ≤ j) → get_or words (edge_place base s j) 0 ≡ 0
        go (inl a) = cc (slice_get-get_or ts j 0 a)
        go (inr a) = edge-absent j l a

    pub edge-compared : (j : ℕ) → j < base.edges → get_or words (edge_place base s j) 0 ≡ 1 → {u : ℕ} → slice_get ts j ≡ Some u
        → way_to base (state_of g s) s u ≡ ByTests
    edge-compared j l e {u} q =
        let a : j < length ts = slice_get_within ts j u q in
        let k : get_or ts j 0 ≡ u = get_or_from_slice_get ts j u 0 q in
        subst (λ (x : ℕ). way_to base (state_of g s) s x ≡ ByTests) k
        (one-tests p.all (way_to base (state_of g s) s (get_or ts j 0)) (class_to (state_of g s) (get_or ts j 0)) (sym (padded-in word (base.words - length ts) ts j a) ∙ sym (edge-word j l) ∙ e))
