-- The ties of a set put in order from the last state down: the records that are held so far begin the sorted ties of the states passed. Assumes nothing.
use mathlib.Core.Path.{◌≡◌, sym, ap, subst, subst₂, ◌∙◌}
use mathlib.Core.Bool.{Bool, true}
use mathlib.Core.List.{List, [], ◌∷◌, map}
use Prim.Native.Nat.{ℕ, ◌+◌, ◌-◌, ◌≤◌, ◌<◌}
use native.Mathlib.Nat.{not-suc-le-zero}
use native.Mathlib.Omega.{arith}
use lib.ListN.{length, get_or, take, replicate, length-replicate, length-map}
use lib.Seq.{length-take-le, get_or-take}
use Rattle.lists.specs.Lists.{before, insert, sorted}
use Rattle.lists.proofs.Elements.{map_at}
use Rattle.lists.proofs.Sorted.{Ordered, sorted-ordered, ordered_at}
use Rattle.graph_rules.specs.Table.{table_of, refusal}
use Rattle.graph_rules.specs.Build.{disambiguation, ties}
use Rattle.legal.specs.declared.Record.{Record}
use Rattle.leaves.specs.Chains.{tie_from}
use Rattle.conflicts.specs.Slots.{tie_of, slot, put_in, Held, InOrder}
use Rattle.conflicts.proofs.Conflicts.{ties_on, ties-end, ties-sorted}
use Rattle.legal.proofs.Legal.{legal-sized}
use Rattle.conflicts.proofs.Slotted.{put-length, put-insert, put-held}
use Rattle.graph_rules.specs.Layout.{most_states}

pub record Sorting (w : List ℕ) (set : List Bool) (s : ℕ) (order : List ℕ) (count : ℕ) : Type 0 where
  pub inside : s ≤ get_or w 0 0
  pub few : count + s ≤ get_or w 0 0
  pub long : length order ≡ most_states
  pub held : Held (get_or w 3 0) order count
  pub ties : map (tie_from (table_of w)) (take count order) ≡ sorted (ties_on (table_of w) (get_or w 0 0) set s)

-- nothing is held yet, in an array of zeros
pub sorting-none : (w : List ℕ) (set : List Bool) (n : ℕ) → n ≡ get_or w 0 0 → Sorting w set n (replicate most_states 0) 0
sorting-none w set n e =
    record {
      inside = omega arith;
      few = omega arith;
      long = length-replicate {A = ℕ} most_states 0;
      held = record { few = omega arith; long = omega arith; low = λ j h. absurd (not-suc-le-zero h) };
      ties = sym (ap sorted (ap (ties_on (table_of w) (get_or w 0 0) set) e ∙ ties-end (table_of w) (get_or w 0 0) set));
    }

module _ (w : List ℕ) (legal : refusal w ≡ 0) (set : List Bool) (s : ℕ) (order : List ℕ) (count : ℕ) (c : Sorting w set s order count) where
  abbrev tie : ℕ → List ℕ
  tie i = tie_from (table_of w) i

  sorting-few : count ≤ most_states
  sorting-few = let f = c.few in let z = legal-sized w legal in omega arith

  sorting-order : InOrder (table_of w) (get_or w 3 0) order count
  sorting-order = record { held = c.held; ordered = λ i j h b. at i j h b }
    where
      here : (j : ℕ) → j < count → get_or (map tie (take count order)) j [] ≡ tie (get_or order j 0)
      here j b =
          let l = c.long in
          let f = sorting-few in
          map_at tie (take count order) j 0 [] (let e = length-take-le count order (omega arith) in omega arith) ∙ ap tie (get_or-take count order j 0 b)

      sort : Ordered (map tie (take count order))
      sort = rw c.ties (sorted-ordered (ties_on (table_of w) (get_or w 0 0) set s))

      at : (i j : ℕ) → i ≤ j → j < count → before (tie (get_or order i 0)) (tie (get_or order j 0)) ≡ true
      at i j h b =
          let l = c.long in
          let f = sorting-few in
          subst₂ (λ (x y : List ℕ). before x y ≡ true) (here i (omega arith)) (here j b)
          (ordered_at (map tie (take count order)) sort i j h
          (let e = length-take-le count order (omega arith) in let d = length-map (take count order) tie in omega arith))

  -- the part of the array that holds them, as a slice
  held-length : length (take count order) ≡ count
  held-length = length-take-le count order c.held.long

  pub sorting-slice : InOrder (table_of w) (get_or w 3 0) (take count order) (length (take count order))
  sorting-slice =
      let e = held-length in
      let few = sorting-few in
      record {
        held = record {
          few = omega arith;
          long = omega arith;
          low = λ j h. rw (get_or-take count order j 0 (omega arith)) (c.held.low j (omega arith));
        };
        ordered = λ i j h b.
            rw (get_or-take count order i 0 (omega arith), get_or-take count order j 0 (omega arith)) (sorting-order.ordered i j h (omega arith));
      }

  -- a state that is not tied, and one that is
  module _ (some : 0 < s) where
    pub sorting-pass : ties_on (table_of w) (get_or w 0 0) set (s - 1) ≡ ties_on (table_of w) (get_or w 0 0) set s → Sorting w set (s - 1) order count
    sorting-pass e =
        let i = c.inside in
        let f = c.few in
        record { inside = omega arith; few = omega arith; long = c.long; held = c.held; ties = c.ties ∙ ap sorted (sym e) }

    pub sorting-more : (r : Record) → r.table.words.now ≡ w → (p : ℕ) → p ≡ slot (tie_of r) (map (tie_from (table_of r.table.words.now)) (take count order))
        → p ≤ length (take count order) → ties_on (table_of w) (get_or w 0 0) set (s - 1) ≡ tie_of r ∷ ties_on (table_of w) (get_or w 0 0) set s
        → Sorting w set (s - 1) (put_in order count p r.number) (count + 1)
    sorting-more r of p q inside e =
        let i = r.number in
        let a = r.some in
        let b : i ≤ get_or w 3 0 = subst (λ (v : List ℕ). i ≤ get_or v 3 0) of r.there in
        let same : tie_of r ≡ tie i = ap (λ (v : List ℕ). tie_from (table_of v) i) of in
        let slotted = q ∙ ap (λ (v : List ℕ). slot (tie_from (table_of v) i) (map (tie_from (table_of v)) (take count order))) of in
        let in_place : p ≤ count = let h = held-length in omega arith in
        let l = c.long in
        let f = c.few in
        let g = c.inside in
        let z = legal-sized w legal in
        record {
          inside = omega arith;
          few = omega arith;
          long = put-length order count p i in_place (omega arith) ∙ l;
          held = put-held order count p i in_place (omega arith) (get_or w 3 0) c.held a b (omega arith);
          ties =
              put-insert order count p i in_place (omega arith) tie slotted
              ∙ ap (insert (tie i)) c.ties
              ∙ ap (λ (l : List ℕ). insert l (sorted (ties_on (table_of w) (get_or w 0 0) set s))) (sym same)
              ∙ ap sorted (sym e);
        }

-- all states are passed
pub sorting-done : (w : List ℕ) (set : List Bool) (order : List ℕ) (count : ℕ) → Sorting w set 0 order count
    → map disambiguation (map (tie_from (table_of w)) (take count order)) ≡ ties (table_of w) (take (get_or w 0 0) set)
sorting-done w set order count c = ap (map disambiguation) c.ties ∙ sym (ties-sorted w set)
