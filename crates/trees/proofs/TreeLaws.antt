-- What a tree that fits has: indices below their holder, and the tree of a record from those of its children. Assumes nothing.
use mathlib.Core.Path.{◌≡◌, refl, sym, ap, ◌∙◌}
use mathlib.Core.Bool.{Bool, true, false, ◌&&◌, ◌||◌, false≢true}
use mathlib.Core.List.{List}
use Prim.Native.Nat.{ℕ, zero, suc, ◌+◌, ◌%◌, ◌<◌, ◌≤◌}
use native.Mathlib.Omega.{arith}
use lib.Dec.{eqb, leb, ltb}
use lib.ListN.{length, take, drop}
use borrow.Author.Tests.{eq-eqb, ne_eqb, ltb-true, leb-true, eqb-true}
use Rattle.lists.specs.Lists.{all_l}
use Rattle.lists.proofs.Bools.{and_both, implied, or-other}
use Rattle.lists.proofs.Intervals.{all_from}
use Rattle.trees.specs.Layout.{record_words, most_records, empty_kind, literal_kind, class_kind, look_kind, repetition_kind, capture_kind, concat_kind, alternation_kind, kind_count, dot_flag, greedy_flag, unbounded_flag}
use Rattle.trees.specs.Tree.{Tree, Chain, empty, literal, class, look, repetition, capture, concat, alternation, done, part, first_of, flag, count, record_of, numbers, tree_of, chain_from, chain_at, tree_at, rule_of, fields_fit, indices_fit, children_fit, literal_fits, record_fits, named, tree_fits}
use Rattle.trees.specs.declared.tree.Record.{Record}
use Rattle.trees.proofs.KindRules.{no-child, one-child}

zero_of : (i : ℕ) → i ≤ 0 → i ≡ 0
zero_of i h = omega arith

pub zero_or : {A : Type 0} (i : ℕ) → (i ≡ 0 → A) → (0 < i → A) → A
zero_or zero f g = f refl
zero_or (suc i) f g = g (omega arith)

not-zero : (t : Bool) (c : Chain) → t ≡ false → (elim t as (λ _. Chain) [ true ↦ done | false ↦ c ]) ≡ c
not-zero true c e = absurd (false≢true (sym e))
not-zero false c e = refl

-- ---- the rules of a record, and of a tree, one by one

pub record RecordRules (w : List ℕ) (size i : ℕ) (r : Record) : Type 0 where
  pub kind : r.kind < kind_count
  pub child : r.child < i
  pub next : r.next < i
  pub children : children_fit w (rule_of r.kind).children r.child ≡ true
  pub literal : literal_fits size r ≡ true

pub kind_fits : (r : Record) → fields_fit r ≡ true → r.kind < kind_count
unfolding fields_fit
kind_fits r h =
    let k = ltb r.kind kind_count in
    let a = (rule_of r.kind).a || eqb r.a 0 in
    let b = (rule_of r.kind).b || eqb r.b 0 in
    ltb-true _ _ (and_both k a (and_both (k && a) b (and_both (k && a && b) _ h).0).0).0

pub record-rules : (w : List ℕ) (size i : ℕ) → record_fits w size i ≡ true → RecordRules w size i (record_of w i)
unfolding record_fits
record-rules w size i h =
    let r = record_of w i in
    let f = fields_fit r in
    let x = indices_fit i r in
    let c = children_fit w (rule_of r.kind).children r.child in
    let fxc = and_both (f && x && c) _ h in
    let fx = and_both (f && x) c fxc.0 in
    let both = and_both f x fx.0 in
    let lower = and_both (ltb r.child i) (ltb r.next i) both.1 in
    record { kind = kind_fits r both.0; child = ltb-true _ _ lower.0; next = ltb-true _ _ lower.1; children = fx.1; literal = fxc.1 }

pub record TreeRules (w : List ℕ) (size : ℕ) : Type 0 where
  pub some : 1 ≤ count w
  pub most : count w ≤ most_records
  pub each : all_l (record_fits w size) (numbers w) ≡ true
  pub last : (record_of w (count w)).next ≡ 0
  pub others : all_l (λ i. eqb i (count w) || leb 1 (named w i)) (numbers w) ≡ true

pub tree-rules : (w bytes : List ℕ) → tree_fits w bytes ≡ true → TreeRules w (length bytes)
unfolding tree_fits
tree-rules w bytes h =
    let a = eqb (length w % record_words) 0 && leb 1 (count w) in
    let b = a && leb (count w) most_records in
    let c = b && all_l (record_fits w (length bytes)) (numbers w) in
    let d = c && all_l (λ i. leb (named w i) 1) (numbers w) in
    let e = d && eqb (record_of w (count w)).next 0 in
    let he = and_both e _ h in
    let hd = and_both d _ he.0 in
    let hc = and_both c _ hd.0 in
    let hb = and_both b _ hc.0 in
    let ha = and_both a _ hb.0 in
    record { some = leb-true _ _ (and_both (eqb (length w % record_words) 0) _ ha.0).1; most = leb-true _ _ ha.1; each = hb.1; last = eqb-true _ _ hd.1; others = he.1 }

module _ (w bytes : List ℕ) (fits : tree_fits w bytes ≡ true) where
  module _ (i : ℕ) (p : 0 < i) (h : i ≤ count w) where
    pub rules-of : RecordRules w (length bytes) i (record_of w i)
    rules-of = record-rules w (length bytes) i (all_from (record_fits w (length bytes)) (count w) 1 (tree-rules w bytes fits).each i p (omega arith))

    pub literal-inside : (record_of w i).kind ≡ literal_kind → (record_of w i).a + (record_of w i).b ≤ length bytes
    literal-inside e = leb-true _ _ (implied (eqb (record_of w i).kind literal_kind) _ rules-of.literal (eq-eqb _ _ e))

    -- kinds 0 to 3 have no child
    pub child-none : (record_of w i).kind < repetition_kind → (record_of w i).child ≡ 0
    child-none u = eqb-true _ _ (rw (no-child (record_of w i).kind rules-of.kind u) at rules-of.children)

    -- repetition and capture have one, alone
    pub child-there : repetition_kind ≤ (record_of w i).kind → (record_of w i).kind < concat_kind → (0 < (record_of w i).child) × ((record_of w (record_of w i).child).next ≡ 0)
    child-there l u =
        let d = (record_of w i).child in
        let both = and_both (ltb 0 d) _ (rw (one-child (record_of w i).kind rules-of.kind l u) at rules-of.children) in
        (ltb-true _ _ both.0, eqb-true _ _ both.1)

    -- every record but the last is named
    pub named_by : i < count w → 1 ≤ named w i
    named_by u =
        leb-true _ _ (or-other (eqb i (count w)) _ (ne_eqb i (count w) (λ q. omega arith))
        (all_from (λ i. eqb i (count w) || leb 1 (named w i)) (count w) 1 (tree-rules w bytes fits).others i p (omega arith)))

  -- ---- a chain, whatever its bound

  pub chain-none : (k : ℕ) → chain_from w bytes k 0 ≡ done
  unfolding chain_from
  chain-none zero = refl
  chain-none (suc k) = refl

  chain-step : (k i : ℕ) → 0 < i → chain_from w bytes (suc k) i ≡ part (tree_of bytes (record_of w i) (chain_from w bytes k (record_of w i).child)) (chain_from w bytes k (record_of w i).next)
  unfolding chain_from
  chain-step k i p =
      not-zero (eqb i 0) (part (tree_of bytes (record_of w i) (chain_from w bytes k (record_of w i).child)) (chain_from w bytes k (record_of w i).next)) (ne_eqb i 0 (λ e. omega arith))

  deep-enough : (k m i : ℕ) → i ≤ k → i ≤ m → i ≤ count w → chain_from w bytes k i ≡ chain_from w bytes m i
  unfolding chain_from
  deep-enough zero m i a b h = rw (zero_of i a) (sym (chain-none m))
  deep-enough (suc k) zero i a b h = rw (zero_of i b) (chain-none (suc k))
  deep-enough (suc k) (suc m) i a b h =
      zero_or i (λ e. rw e (chain-none (suc k) ∙ sym (chain-none (suc m))))
      (λ p.
      let r = record_of w i in
      let c : r.child < i = (rules-of i p h).child in
      let n : r.next < i = (rules-of i p h).next in
      chain-step k i p
      ∙ ap {B = Chain} (λ (x : Chain). part (tree_of bytes r x) (chain_from w bytes k r.next)) (deep-enough k m r.child (omega arith) (omega arith) (omega arith))
      ∙ ap {B = Chain} (λ (x : Chain). part (tree_of bytes r (chain_from w bytes m r.child)) x) (deep-enough k m r.next (omega arith) (omega arith) (omega arith))
      ∙ sym (chain-step m i p))

  pub chain-part : (i : ℕ) → 0 < i → i ≤ count w → chain_at w bytes i ≡ part (tree_at w bytes i) (chain_at w bytes (record_of w i).next)
  unfolding chain_at tree_at
  chain-part zero p h = absurd (omega arith)
  chain-part (suc k) p h =
      let i = suc k in
      let r = record_of w i in
      let c : r.child < suc k = (rules-of (suc k) p h).child in
      let n : r.next < suc k = (rules-of (suc k) p h).next in
      chain-step k (suc k) p
      ∙ ap {B = Chain} (λ (x : Chain). part (tree_of bytes r x) (chain_from w bytes k r.next)) (deep-enough k r.child r.child (omega arith) (omega arith) (omega arith))
      ∙ ap {B = Chain} (λ (x : Chain). part (tree_of bytes r (chain_from w bytes r.child r.child)) x) (deep-enough k r.next r.next (omega arith) (omega arith) (omega arith))

  pub first-child : (i : ℕ) → 0 < i → i ≤ count w → first_of (chain_at w bytes i) ≡ tree_at w bytes i
  first-child i p h = ap {B = Tree} first_of (chain-part i p h)

-- ---- a record's tree, by its kind

pub tree-at : (w bytes : List ℕ) (i : ℕ) (r : Record) → r ≡ record_of w i → tree_at w bytes i ≡ tree_of bytes r (chain_at w bytes r.child)
unfolding tree_at
tree-at w bytes i r e = rw e

module _ (bytes : List ℕ) (r : Record) (c : Chain) where
  pub tree-empty : r.kind ≡ empty_kind → tree_of bytes r c ≡ empty
  unfolding tree_of
  tree-empty e = rw e

  pub tree-literal : r.kind ≡ literal_kind → tree_of bytes r c ≡ literal (take r.b (drop r.a bytes))
  unfolding tree_of
  tree-literal e = rw e

  pub tree-class : r.kind ≡ class_kind → tree_of bytes r c ≡ class (flag dot_flag r.flags)
  unfolding tree_of
  tree-class e = rw e

  pub tree-look : r.kind ≡ look_kind → tree_of bytes r c ≡ look
  unfolding tree_of
  tree-look e = rw e

  pub tree-repetition : r.kind ≡ repetition_kind → tree_of bytes r c ≡ repetition r.a (flag greedy_flag r.flags) (flag unbounded_flag r.flags) (first_of c)
  unfolding tree_of
  tree-repetition e = rw e

  pub tree-capture : r.kind ≡ capture_kind → tree_of bytes r c ≡ capture (first_of c)
  unfolding tree_of
  tree-capture e = rw e

  pub tree-concat : r.kind ≡ concat_kind → tree_of bytes r c ≡ concat c
  unfolding tree_of
  tree-concat e = rw e

  pub tree-alternation : r.kind ≡ alternation_kind → tree_of bytes r c ≡ alternation c
  unfolding tree_of
  tree-alternation e = rw e
