-- How often each number is named, counted record by record. Assumes nothing.
use mathlib.Core.Path.{◌≡◌, sym, ap, ◌∙◌}
use mathlib.Core.Bool.{Bool, true, false, cond}
use mathlib.Core.List.{List}
use Prim.Native.Nat.{ℕ, suc, ◌+◌, ◌-◌, ◌*◌, ◌≤◌, ◌<◌}
use native.Mathlib.Nat.{add-zero}
use native.Mathlib.Omega.{arith}
use lib.Dec.{eqb}
use lib.ListN.{length, get_or, set, replicate, length-set, length-replicate, get_or-replicate}
use lib.Seq.{get_or-set_same, get_or-set_other, ext_get_or}
use borrow.Author.Tests.{eqb-true, eqb-false}
use Rattle.lists.specs.Lists.{tab, those}
use Rattle.lists.proofs.Bools.{Is, is, yes-is, no-is}
use Rattle.lists.proofs.Elements.{length-tab, get_or-tab0}
use Rattle.lists.proofs.Intervals.{from, count_most, count-more}
use Rattle.trees.specs.Layout.{number_count}
use Rattle.trees.specs.Tree.{count, record_of, named}
use Rattle.trees.specs.Held.{Numbered}
use Rattle.trees.specs.declared.tree.Record.{Record}

-- a list of counts with one of them raised
abbrev pub raised : List ℕ → ℕ → List ℕ
raised l c = set l c (get_or l c 0 + 1)

raised_at : (l : List ℕ) (c j : ℕ) → c < length l → get_or (raised l c) j 0 ≡ get_or l j 0 + cond (eqb c j) 1 0
raised_at l c j h = go (is (eqb c j))
  where
    go : Is (eqb c j) → get_or (raised l c) j 0 ≡ get_or l j 0 + cond (eqb c j) 1 0
    go (yes-is e) = let same : c ≡ j = eqb-true c j e in rw (e, ← same) (get_or-set_same l c (get_or l c 0 + 1) 0 h)
    go (no-is e) = rw e (get_or-set_other l c j (get_or l c 0 + 1) 0 (λ q. eqb-false c j e (sym q)) ∙ sym (add-zero (get_or l j 0)))

-- how often the records before i name number j
unfoldable pub named_before : List ℕ → ℕ → ℕ → ℕ
named_before w i j =
    length (those (λ q. eqb (record_of w q).child j) (from 1 (i - 1))) + length (those (λ q. eqb (record_of w q).next j) (from 1 (i - 1)))

before-most : (w : List ℕ) (i j : ℕ) → named_before w i j ≤ 2 * (i - 1)
unfolding named_before
before-most w i j =
    let a = count_most (λ q. eqb (record_of w q).child j) (i - 1) 1 in
    let b = count_most (λ q. eqb (record_of w q).next j) (i - 1) 1 in
    omega arith

before_more : (w : List ℕ) (i j : ℕ) → 1 ≤ i → named_before w (i + 1) j ≡ named_before w i j + cond (eqb (record_of w i).child j) 1 0 + cond (eqb (record_of w i).next j) 1 0
unfolding named_before
before_more w i j h =
    let e : i + 1 - 1 ≡ suc (i - 1) = omega arith in
    let k : 1 + (i - 1) ≡ i = omega arith in
    let a = count-more (λ q. eqb (record_of w q).child j) (i - 1) 1 in
    let b = count-more (λ q. eqb (record_of w q).next j) (i - 1) 1 in
    let a' = rw k at a in
    let b' = rw k at b in
    rw e (omega (arith, a', b'))

-- the counts of the records before i
pub record Tallied (w times : List ℕ) (i : ℕ) : Type 0 where
  pub long : length times ≡ number_count
  pub each : (j : ℕ) → j < number_count → get_or times j 0 ≡ named_before w i j

module _ (w : List ℕ) where
  pub tally-starts : Tallied w (replicate number_count 0) 1
  unfolding named_before
  tally-starts = record { long = length-replicate {A = ℕ} number_count 0; each = λ j h. get_or-replicate {A = ℕ} number_count j 0 0 h }

  module _ (times : List ℕ) (i : ℕ) (t : Tallied w times i) where
    pub tally-most : (j : ℕ) → j < number_count → get_or times j 0 ≤ 2 * (i - 1)
    tally-most j h = omega (arith, t.each j h, before-most w i j)

    module _ (r : Record) (e : r ≡ record_of w i) (c : r.child < number_count) where
      pub raised-most : (j : ℕ) → j < number_count → get_or (raised times r.child) j 0 ≤ 2 * (i - 1) + 1
      raised-most j h = omega (arith, raised_at times r.child j (rw t.long c), tally-most j h, one-most (eqb r.child j))
        where
          one-most : (b : Bool) → cond b 1 0 ≤ 1
          one-most true = omega arith
          one-most false = omega arith

      pub tally-goes : 1 ≤ i → r.next < number_count → Tallied w (raised (raised times r.child) r.next) (i + 1)
      tally-goes l n =
          record {
            long = simp length-set t.long;
            each = λ j h.
                raised_at (raised times r.child) r.next j (simp (length-set, t.long) n)
                ∙ ap (λ (x : ℕ). x + cond (eqb r.next j) 1 0) (raised_at times r.child j (rw t.long c) ∙ ap (λ (x : ℕ). x + cond (eqb r.child j) 1 0) (t.each j h))
                ∙ ap (λ (x : Record). named_before w i j + cond (eqb x.child j) 1 0 + cond (eqb x.next j) 1 0) e
                ∙ sym (before_more w i j l);
          }

  pub tally-ends : (times : List ℕ) (i : ℕ) → i ≡ count w + 1 → Tallied w times i → times ≡ tab 0 number_count (named w)
  unfolding named named_before
  tally-ends times i e t =
      let k : i - 1 ≡ count w = omega arith in
      ext_get_or 0 times (tab 0 number_count (named w)) (t.long ∙ sym (length-tab 0 number_count (named w)))
      (λ j h. let u : j < number_count = rw t.long at h in t.each j u ∙ (rw k (sym (get_or-tab0 number_count (named w) j 0 u))))

-- what a record names has a count
pub names-in : (w : List ℕ) → Numbered w → (i : ℕ) → 1 ≤ i → i < count w + 1 → (r : Record) → r ≡ record_of w i → (r.child < number_count) × (r.next < number_count)
names-in w n i l u r e =
    let child : r.child < i = rw e (n.child i l (omega arith)) in
    let next : r.next < i = rw e (n.next i l (omega arith)) in
    (omega (arith, n.most), omega (arith, n.most))
