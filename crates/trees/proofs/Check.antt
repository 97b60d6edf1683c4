-- The check of a tree, as the code makes it: one record, every record, how often each is named, and all of it. Assumes nothing.
use mathlib.Core.Path.{◌≡◌, sym, ap, ◌∙◌}
use mathlib.Core.Bool.{Bool, true, false, not, ◌&&◌, ◌||◌}
use mathlib.Core.List.{List}
use Prim.Native.Nat.{ℕ, ◌+◌, ◌-◌, ◌%◌, ◌≤◌, ◌<◌}
use native.Mathlib.Nat.{pos_of_ne-zero}
use native.Mathlib.Omega.{arith}
use lib.Dec.{eqb, leb}
use lib.ListN.{length, get_or}
use borrow.Author.Tests.{lt-ltb, le-ltb, le-leb, lt-leb, leb-true, eq-eqb, ne_eqb, eqb-true}
use Rattle.lists.specs.Lists.{tab, all_l}
use Rattle.lists.proofs.Bools.{and_both, and_intro, and-false, and-true, bool-ext, or_left, or_right, Order, order, less, equal, more, or-other}
use Rattle.lists.proofs.Elements.{get_or-tab0}
use Rattle.lists.proofs.Intervals.{from, all_from, from_all, count_none}
use Rattle.trees.specs.Layout.{record_words, most_records, number_count, kind_count, literal_kind}
use Rattle.trees.specs.Tree.{count, record_of, numbers, rule_of, fields_fit, children_fit, literal_fits, record_fits, named, tree_fits}
use Rattle.trees.specs.Held.{Numbered, kind_number}
use Rattle.trees.specs.declared.kind.Kind.{Kind}
use Rattle.trees.specs.declared.tree.Record.{Record}
use Rattle.trees.specs.declared.kind.Rule.{Rule}
use Rattle.trees.proofs.KindRules.{kind-below}
use Rattle.trees.proofs.TreeLaws.{RecordRules, record-rules}

-- ---- one record

module _ (w : List ℕ) (size i : ℕ) (r : Record) (e : r ≡ record_of w i) where
  pub wrong-kind : kind_count ≤ r.kind → false ≡ record_fits w size i
  unfolding record_fits fields_fit
  wrong-kind h = rw (← e, le-ltb r.kind kind_count h)

  -- a kind, and its rule
  module _ (kind : Kind) (k : r.kind ≡ kind_number kind) (rule : Rule) (is-rule : rule ≡ rule_of (kind_number kind)) where
    tested : (b : Bool) → b ≡ ((rule.a || eqb r.a 0) && (rule.b || eqb r.b 0) && leb r.flags rule.flags) → fields_fit r ≡ b
    unfolding fields_fit
    tested b eb = rw (eb, is-rule, k, lt-ltb (kind_number kind) kind_count (kind-below kind))

    module _ (fields : Bool) (is-fields : fields ≡ ((rule.a || eqb r.a 0) && (rule.b || eqb r.b 0) && leb r.flags rule.flags)) where
      pub wrong-fields : fields ≡ false → false ≡ record_fits w size i
      unfolding record_fits
      wrong-fields h = let f = tested fields is-fields ∙ h in rw (← e, f)

      module _ (right : fields ≡ true) where
        pub wrong-child : i ≤ r.child → false ≡ record_fits w size i
        unfolding record_fits
        wrong-child h = let f = tested fields is-fields ∙ right in rw (← e, f, le-ltb r.child i h)

        pub wrong-next : r.child < i → i ≤ r.next → false ≡ record_fits w size i
        unfolding record_fits
        wrong-next l h = let f = tested fields is-fields ∙ right in rw (← e, f, lt-ltb r.child i l, le-ltb r.next i h)

        module _ (lc : r.child < i) (ln : r.next < i) (a : Bool) (ea : a ≡ children_fit w rule.children r.child) where
          whole : (a && literal_fits size r) ≡ record_fits w size i
          unfolding record_fits
          whole =
              let f = tested fields is-fields ∙ right in
              let c : a ≡ children_fit w (rule_of r.kind).children r.child = ea ∙ (rw (is-rule, k)) in
              rw (← e, f, lt-ltb r.child i lc, lt-ltb r.next i ln, c)

          pub wrong-children : a ≡ false → a ≡ record_fits w size i
          wrong-children h = h ∙ ap (λ (x : Bool). x && literal_fits size r) (sym h) ∙ whole

          pub right-children : a ≡ true → (b : Bool) → b ≡ (not (eqb (kind_number kind) literal_kind) || leb (r.a + r.b) size) → b ≡ record_fits w size i
          right-children h b eb =
              let l : b ≡ literal_fits size r = eb ∙ (rw k) in
              l ∙ ap (λ (x : Bool). x && literal_fits size r) (sym h) ∙ whole

-- ---- every record: its indices are lower

module _ (w : List ℕ) (size : ℕ) (each : all_l (record_fits w size) (numbers w) ≡ true) where
  rules-at : (i : ℕ) → 0 < i → i ≤ count w → RecordRules w size i (record_of w i)
  rules-at i l u = record-rules w size i (all_from (record_fits w size) (count w) 1 each i l (omega arith))

  pub numbered : count w ≤ most_records → Numbered w
  numbered m =
      record {
        most = m;
        child = λ i l u. (rules-at i l u).child;
        next = λ i l u. (rules-at i l u).next;
      }

  -- the last is named by none
  last-unnamed : named w (count w) ≡ 0
  unfolding named
  last-unnamed =
      let child = count_none (λ j. eqb (record_of w j).child (count w)) (count w) 1
      (λ i l u. ne_eqb (record_of w i).child (count w) (λ e. let b = (rules-at i l (omega arith)).child in omega arith)) in
      let next = count_none (λ j. eqb (record_of w j).next (count w)) (count w) 1
      (λ i l u. ne_eqb (record_of w i).next (count w) (λ e. let b = (rules-at i l (omega arith)).next in omega arith)) in
      omega arith

  -- ---- once and every one: each but the last is named once

  module _ (times : List ℕ) (e : times ≡ tab 0 number_count (named w)) (m : count w ≤ most_records) where
    counted : (i : ℕ) → i ≤ count w → get_or times i 0 ≡ named w i
    counted i h = rw e (get_or-tab0 number_count (named w) i 0 (omega arith))

    pub named-once : all_l (λ i. eqb (get_or times i 0) 1) (from 1 (count w - 1)) ≡ (all_l (λ i. leb (named w i) 1) (numbers w) && all_l (λ i. eqb i (count w) || leb 1 (named w i)) (numbers w))
    named-once = bool-ext _ _ there back
      where
        there : all_l (λ i. eqb (get_or times i 0) 1) (from 1 (count w - 1)) ≡ true
            → (all_l (λ i. leb (named w i) 1) (numbers w) && all_l (λ i. eqb i (count w) || leb 1 (named w i)) (numbers w)) ≡ true
        there h =
            let once : (i : ℕ) → 1 ≤ i → i < count w → named w i ≡ 1 =
            λ i l u. sym (counted i (omega arith)) ∙ eqb-true (get_or times i 0) 1 (all_from (λ i. eqb (get_or times i 0) 1) (count w - 1) 1 h i l (omega arith)) in
            and_intro _ _
            (from_all (λ i. leb (named w i) 1) (count w) 1 (λ i l u. at_most i (order i (count w)) (once i l) u))
            (from_all (λ i. eqb i (count w) || leb 1 (named w i)) (count w) 1 (λ i l u. at_least i (order i (count w)) (once i l) u))
          where
            at_most : (i : ℕ) → Order i (count w) → (i < count w → named w i ≡ 1) → i < 1 + count w → leb (named w i) 1 ≡ true
            at_most i (less k) f u = let o = f k in le-leb (named w i) 1 (omega arith)
            at_most i (equal k) f u = let o : named w i ≡ 0 = ap (named w) k ∙ last-unnamed in le-leb (named w i) 1 (omega arith)
            at_most i (more k) f u = absurd (omega arith)

            at_least : (i : ℕ) → Order i (count w) → (i < count w → named w i ≡ 1) → i < 1 + count w → (eqb i (count w) || leb 1 (named w i)) ≡ true
            at_least i (less k) f u = let o = f k in or_right (eqb i (count w)) _ (le-leb 1 (named w i) (omega arith))
            at_least i (equal k) f u = or_left _ _ (eq-eqb _ _ k)
            at_least i (more k) f u = absurd (omega arith)

        back : (all_l (λ i. leb (named w i) 1) (numbers w) && all_l (λ i. eqb i (count w) || leb 1 (named w i)) (numbers w)) ≡ true
            → all_l (λ i. eqb (get_or times i 0) 1) (from 1 (count w - 1)) ≡ true
        back h =
            let both = and_both _ _ h in
            from_all (λ i. eqb (get_or times i 0) 1) (count w - 1) 1
            (λ i l u.
            let n : i < count w = omega arith in
            let most : named w i ≤ 1 = leb-true _ _ (all_from (λ i. leb (named w i) 1) (count w) 1 both.0 i l (omega arith)) in
            let least : 1 ≤ named w i = leb-true _ _ (or-other (eqb i (count w)) _ (ne_eqb i (count w) (λ q. omega arith)) (all_from (λ i. eqb i (count w) || leb 1 (named w i)) (count w) 1 both.1 i l (omega arith))) in
            let one : named w i ≡ 1 = omega arith in
            eq-eqb _ _ (counted i (omega arith) ∙ one))

-- ---- all of it, in the order of the code

module _ (w bytes : List ℕ) where
  pub part-record : (length w % record_words ≡ 0 → ⊥) → false ≡ tree_fits w bytes
  unfolding tree_fits
  part-record h = rw (ne_eqb (length w % record_words) 0 h)

  module _ (whole : length w % record_words ≡ 0) where
    pub no_record : count w ≡ 0 → false ≡ tree_fits w bytes
    unfolding tree_fits
    no_record h = let l : count w < 1 = omega arith in rw (eq-eqb (length w % record_words) 0 whole, lt-leb 1 (count w) l)

    module _ (some : count w ≡ 0 → ⊥) where
      least : 1 ≤ count w
      least = pos_of_ne-zero some

      pub over-most : most_records < count w → false ≡ tree_fits w bytes
      unfolding tree_fits
      over-most h = rw (eq-eqb (length w % record_words) 0 whole, le-leb 1 (count w) least, lt-leb (count w) most_records h)

      module _ (most : count w ≤ most_records) where
        so_far : tree_fits w bytes
            ≡ (all_l (record_fits w (length bytes)) (numbers w) && all_l (λ i. leb (named w i) 1) (numbers w) && eqb (record_of w (count w)).next 0 && all_l (λ i. eqb i (count w) || leb 1 (named w i)) (numbers w))
        unfolding tree_fits
        so_far = rw (eq-eqb (length w % record_words) 0 whole, le-leb 1 (count w) least, le-leb (count w) most_records most)

        pub wrong-record : all_l (record_fits w (length bytes)) (numbers w) ≡ false → false ≡ tree_fits w bytes
        wrong-record h = rw (so_far, h)

        module _ (each : all_l (record_fits w (length bytes)) (numbers w) ≡ true) (r : Record) (e : r ≡ record_of w (count w)) where
          pub root-goes-on : (r.next ≡ 0 → ⊥) → false ≡ tree_fits w bytes
          root-goes-on h = let z = ne_eqb r.next 0 h in rw (so_far, each, ← e, z, and-false (all_l (λ i. leb (named w i) 1) (numbers w)))

          pub named-rightly : r.next ≡ 0 → (times : List ℕ) → times ≡ tab 0 number_count (named w) → (b : Bool) → b ≡ all_l (λ i. eqb (get_or times i 0) 1) (from 1 (count w - 1)) → b ≡ tree_fits w bytes
          named-rightly h times t b eb =
              let z = eq-eqb r.next 0 h in
              eb ∙ named-once w (length bytes) each times t most ∙ (rw (so_far, each, ← e, z, and-true (all_l (λ i. leb (named w i) 1) (numbers w))))
