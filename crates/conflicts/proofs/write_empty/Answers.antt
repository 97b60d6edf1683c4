-- Leaf by leaf, the conflict of one that can be empty. Assumes nothing.
use mathlib.Core.Path.{◌≡◌, sym, ap, ◌∙◌}
use mathlib.Core.List.{List, ◌++◌, map, flat_map}
use Prim.Native.Nat.{ℕ, ◌+◌, ◌≤◌, ◌<◌}
use native.Mathlib.Omega.{arith}
use native.Mathlib.Numerals.{add-one, add-two}
use borrow.Author.Tests.{eqb-true, eqb-false}
use lib.ListN.{length, get_or, length-set}
use Rattle.lists.proofs.Runs.{Underway, run-begun, run_more, run_room}
use Rattle.graph_rules.specs.Table.{table_of, leaf_at}
use Rattle.graph_rules.specs.Build.{empty_match, error_words, empty_leaves}
use Rattle.conflicts.proofs.Listing.{empties_on, empty_words, empties-all, empties-over, empties-yes, empties-no, run-listed}
use Rattle.conflicts.proofs.write_empty.Goals as goal
use Rattle.conflicts.proofs.write_empty.Goals.{then-can_be_empty, else-can_be_empty}

-- a conflict that is to come has room
place : {found all out : List ℕ} {at : ℕ} (l : ℕ) (ls : List ℕ) → length all ≤ length found
    → Underway found 0 all out at (error_words (empty_match l) ++ empty_words ls) → at + 3 ≤ length out
place {found} {all} l ls h u = let z : 0 + length all ≤ length found = omega arith in let r = run_room z u in omega arith

pub loop-l-init : goal.loop-l-init
unfolding empty_words
loop-l-init c =
    let w = c.args.table.words.now in
    let e = ap (λ (l : List ℕ). length (empty_words l)) (empties-all w) in
    let r = c.requires in
    record { room = omega arith; run = run-begun c.args.errors.now 0 (empty_words (empties_on (table_of w) (get_or w 2 0) 0)) }

-- the leaves from one on that can be empty begin with it
here : (w : List ℕ) (l : ℕ) → l < get_or w 2 0 → (leaf_at (table_of w) l).empty ≡ 1
    → empty_words (empties_on (table_of w) (get_or w 2 0) l) ≡ error_words (empty_match l) ++ empty_words (empties_on (table_of w) (get_or w 2 0) (l + 1))
unfolding empty_words flat_map
here w l h e = ap empty_words (empties-yes (table_of w) (get_or w 2 0) l h e)

pub bounds-errors-at : goal.bounds-errors-at
bounds-errors-at c =
    let w = c.args.table.words.now in
    let l = c.loop-l.l in
    let f = eqb-true (leaf_at (table_of w) l).empty 1 (sym c.can_be_empty.ensures ∙ c.if-can_be_empty.true) in
    let r = place l (empties_on (table_of w) (get_or w 2 0) (l + 1)) c.loop-l.invariant.room (rw (here w l (omega arith) f) at c.loop-l.invariant.run) in
    omega arith

pub bounds-errors-at-then-can_be_empty : goal.bounds-errors-at-then-can_be_empty
bounds-errors-at-then-can_be_empty c =
    let w = c.args.table.words.now in
    let l = c.loop-l.l in
    let f = eqb-true (leaf_at (table_of w) l).empty 1 (sym c.can_be_empty.ensures ∙ c.if-can_be_empty.true) in
    let r = place l (empties_on (table_of w) (get_or w 2 0) (l + 1)) c.loop-l.invariant.room (rw (here w l (omega arith) f) at c.loop-l.invariant.run) in
    simp length-set (omega arith)

pub bounds-errors-at-then-can_be_empty-2 : goal.bounds-errors-at-then-can_be_empty-2
bounds-errors-at-then-can_be_empty-2 c =
    let w = c.args.table.words.now in
    let l = c.loop-l.l in
    let f = eqb-true (leaf_at (table_of w) l).empty 1 (sym c.can_be_empty.ensures ∙ c.if-can_be_empty.true) in
    let r = place l (empties_on (table_of w) (get_or w 2 0) (l + 1)) c.loop-l.invariant.room (rw (here w l (omega arith) f) at c.loop-l.invariant.run) in
    simp length-set (omega arith)

pub loop-l-preserved : goal.loop-l-preserved
loop-l-preserved c =
    let w = c.args.table.words.now in
    let l = c.loop-l.l in
    let at = c.loop-l.at in
    let ls = empties_on (table_of w) (get_or w 2 0) (l + 1) in
    let v = c.loop-l.invariant in
    elim c.if-can_be_empty.branch [
      | then-can_be_empty k ↦ let f = eqb-true (leaf_at (table_of w) l).empty 1 (sym c.can_be_empty.ensures ∙ k.if-can_be_empty.true) in
          let u = run_more (error_words (empty_match l)) (empty_words ls) (rw (here w l (omega arith) f) at v.run) in
          record {
            room = v.room;
            run = rw (k.errors-is, k.at-is) (rw (add-one at, add-two at) u);
          }
      | else-can_be_empty k ↦ let f = eqb-false (leaf_at (table_of w) l).empty 1 (sym c.can_be_empty.ensures ∙ k.if-can_be_empty.false) in
          record {
            room = v.room;
            run = rw (k.errors-is, k.at-is) (rw (empties-no (table_of w) (get_or w 2 0) l (omega arith) f) at v.run);
          }
    ]

pub returns : goal.returns
unfolding empty_words flat_map
returns c =
    let w = c.args.table.words.now in
    let t = table_of w in
    let e : c.loop-l.l ≡ get_or w 2 0 = omega arith in
    run-listed (map empty_match (empty_leaves t)) (ap empty_words (empties-all w))
    (ap (λ (k : ℕ). empty_words (empties_on t (get_or w 2 0) k)) e ∙ ap empty_words (empties-over t (get_or w 2 0)))
    c.loop-l.invariant.room c.loop-l.invariant.run
