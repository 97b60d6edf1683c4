-- Half of the places is left each time. Assumes nothing.
use mathlib.Core.Path.{◌≡◌, sym, ◌∙◌}
use Prim.Native.Nat.{ℕ, ◌+◌, ◌-◌, ◌/◌}
use native.Mathlib.Omega.{arith}
use lib.ListN.{length, get_or}
use Rattle.lists.specs.Lists.{before}
use Rattle.graph_rules.specs.Table.{table_of}
use Rattle.legal.specs.declared.Record.{Record}
use Rattle.leaves.specs.Chains.{tie_from}
use Rattle.conflicts.specs.Slots.{tie_of}
use Rattle.conflicts.proofs.Slotted.{between-low, between-high, between-slot}
use Rattle.conflicts.proofs.slot_of.Goals as goal

-- the record of a number begins the tie that the number does
numbered : (i r : Record) (v : ℕ) → (r.table ≡ i.table) × (r.number ≡ v) → before (tie_of i) (tie_of r) ≡ before (tie_of i) (tie_from (table_of i.table.words.now) v)
numbered i r v e = λ k. before (tie_of i) (tie_from (table_of (e.0 k).words.now) (e.1 k))

pub loop-low-preserved-then-tie_before : goal.loop-low-preserved-then-tie_before
loop-low-preserved-then-tie_before c =
    let l = c.loop-low in
    let i = c.args.i in
    let m = l.low + (l.high - l.low) / 2 in
    between-low (tie_from (table_of i.table.words.now)) c.args.order.now (length c.args.order.now) (tie_of i) l.low l.high m l.invariant (omega arith) (omega arith)
    (sym (numbered i c.match_record.result (get_or c.args.order.now m 0) c.match_record.ensures) ∙ sym c.tie_before.ensures ∙ c.if-tie_before.true)

pub loop-low-preserved : goal.loop-low-preserved
loop-low-preserved c =
    let l = c.loop-low in
    let i = c.args.i in
    let m = l.low + (l.high - l.low) / 2 in
    between-high (tie_from (table_of i.table.words.now)) c.args.order.now (length c.args.order.now) (tie_of i) l.low l.high m l.invariant (omega arith) (omega arith)
    c.requires.in_order.ordered
    (sym (numbered i c.match_record.result (get_or c.args.order.now m 0) c.match_record.ensures) ∙ sym c.tie_before.ensures ∙ c.if-tie_before.false)

pub returns : goal.returns
returns c =
    let l = c.loop-low in
    let few = c.requires.in_order.held.few in
    let i = l.invariant.inside in
    let e = l.invariant.end in (
      sym (between-slot (tie_from (table_of c.args.i.table.words.now)) c.args.order.now (tie_of c.args.i) l.low l.high (omega arith) l.invariant),
      omega arith,
    )
