-- Tie after tie, in order. Assumes nothing.
use mathlib.Core.Path.{◌≡◌, ap}
use mathlib.Core.List.{List, flat_map}
use Prim.Native.Nat.{ℕ, ◌+◌, ◌≤◌}
use native.Mathlib.Omega.{arith}
use lib.ListN.{length, get_or, take, drop, length-append}
use Rattle.lists.proofs.Runs.{run-begun, run_more, run_room}
use Rattle.graph_rules.specs.Table.{table_of}
use Rattle.graph_rules.specs.Build.{Error, disambiguation, error_words}
use Rattle.legal.specs.declared.Table as legal
use Rattle.legal.specs.declared.Record.{Record}
use Rattle.leaves.specs.Chains.{tie_from}
use Rattle.conflicts.specs.Slots.{tie_of}
use Rattle.conflicts.proofs.Listing.{tie_words, ties-on, ties-over, run-listed}
use Rattle.conflicts.proofs.write_ties.Goals as goal

pub loop-i-init : goal.loop-i-init
unfolding tie_words
loop-i-init c =
    let o = c.tie_order-sorted in
    let e = ap (λ (l : List Error). length (flat_map error_words l)) o.ensures.order_value in
    let r = c.requires in
    record { room = omega arith; run = run-begun c.args.errors.now 0 (tie_words (table_of c.args.table.words.now) (take o.result.count o.result.order)) }

-- the record of a number begins the tie that the number does
numbered : (table : legal.Table) (r : Record) (v : ℕ) → (r.table ≡ table) × (r.number ≡ v) → tie_of r ≡ tie_from (table_of table.words.now) v
numbered table r v e = λ k. tie_from (table_of (e.0 k).words.now) (e.1 k)

pub write_tie-at-requires : goal.write_tie-at-requires
write_tie-at-requires c =
    let t = table_of c.args.table.words.now in
    let all = take c.tie_order-sorted.result.count c.tie_order-sorted.result.order in
    let k = c.loop-i.i-index in
    let first = error_words (disambiguation (tie_from t (get_or all k 0))) in
    let same = ap (λ (l : List ℕ). length (error_words (disambiguation l))) (numbered c.args.table c.match_record.result (get_or all k 0) c.match_record.ensures) in
    let e = ap length (ties-on t all k c.loop-i-test.true) in
    let n = length-append first (tie_words t (drop (k + 1) all)) in
    let room : 0 + length (tie_words t all) ≤ length c.args.errors.now = (let v = c.loop-i.invariant.room in omega arith) in
    let r = run_room room c.loop-i.invariant.run in
    omega arith

pub loop-i-preserved : goal.loop-i-preserved
loop-i-preserved c =
    let t = table_of c.args.table.words.now in
    let all = take c.tie_order-sorted.result.count c.tie_order-sorted.result.order in
    let k = c.loop-i.i-index in
    let first = error_words (disambiguation (tie_from t (get_or all k 0))) in
    let rest = tie_words t (drop (k + 1) all) in
    let same = numbered c.args.table c.match_record.result (get_or all k 0) c.match_record.ensures in
    let w = c.write_tie-at in
    record {
      room = c.loop-i.invariant.room;
      run = rw (w.ensures.errors_after, w.ensures.value, same) (run_more first rest (rw (ties-on t all k c.loop-i-test.true) at c.loop-i.invariant.run));
    }

pub returns : goal.returns
unfolding tie_words
returns c =
    let t = table_of c.args.table.words.now in
    let all = take c.tie_order-sorted.result.count c.tie_order-sorted.result.order in
    run-listed _ (ap (flat_map error_words) c.tie_order-sorted.ensures.order_value) (ties-over t all c.loop-i.i-index c.loop-i-test.false)
    c.loop-i.invariant.room c.loop-i.invariant.run
