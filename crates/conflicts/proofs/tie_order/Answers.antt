-- One state down: its tie is put in at its place, or it has none. Assumes nothing.
use mathlib.Core.Path.{◌≡◌, sym, ap, subst}
use mathlib.Core.List.{List}
use Prim.Native.Nat.{ℕ, ◌-◌, ◌+◌}
use native.Mathlib.Omega.{arith}
use lib.ListN.{length, get_or, take}
use Rattle.graph_rules.specs.Table.{table_of}
use Rattle.legal.specs.declared.Table as legal
use Rattle.conflicts.specs.Slots.{InOrder}
use Rattle.legal.proofs.Legal.{legal-sized}
use Rattle.conflicts.proofs.Conflicts.{down-free, down-tied}
use Rattle.conflicts.proofs.Orders.{Sorting, sorting-none, sorting-slice, sorting-pass, sorting-more, sorting-done}
use Rattle.conflicts.proofs.tie_order.Goals as goal

pub loop-s-init : goal.loop-s-init
loop-s-init c = sorting-none c.args.table.words.now c.args.set.now c.states-s.result c.states-s.ensures.0

pub slot_of-p-requires : goal.slot_of-p-requires
slot_of-p-requires c =
    let l = c.loop-s in
    let order = sorting-slice c.args.table.words.now c.args.table.legal c.args.set.now l.s l.order l.count l.invariant in
    record {
      in_order =
          subst (λ (u : legal.Table). InOrder (table_of u.words.now) (get_or u.words.now 3 0) (take l.count l.order) (length (take l.count l.order)))
          (sym c.in-Some.ensures.table) order;
    }

pub overflow_cast-i : goal.overflow_cast-i
overflow_cast-i c =
    let i = c.in-Some.i in
    let z = legal-sized i.table.words.now i.table.legal in
    omega (arith, i.there)

pub loop-s-preserved-in-Some : goal.loop-s-preserved-in-Some
loop-s-preserved-in-Some c =
    let w = c.args.table.words.now in
    let set = c.args.set.now in
    let l = c.loop-s in
    let i = c.in-Some.i in
    let of = c.in-Some.ensures.table in
    let p = c.slot_of-p in
    subst (λ (o : List ℕ). Sorting w set (l.s - 1) o (l.count + 1)) (sym c.put_in.ensures)
    (sorting-more w c.args.table.legal set l.s l.order l.count l.invariant (omega arith) i (ap (λ (u : legal.Table). u.words.now) of) p.result p.ensures.0 p.ensures.1
    (down-tied c.args.table set l.s (omega arith) l.invariant.inside i of (sym c.in-Some.ensures.number)))

pub loop-s-preserved : goal.loop-s-preserved
loop-s-preserved c =
    let w = c.args.table.words.now in
    let set = c.args.set.now in
    let l = c.loop-s in
    sorting-pass w c.args.table.legal set l.s l.order l.count l.invariant (omega arith)
    (down-free c.args.table set l.s (omega arith) l.invariant.inside (sym c.in_default.ensures.number))

pub returns-clause-order_value : goal.returns-clause-order_value
returns-clause-order_value c =
    let w = c.args.table.words.now in
    let set = c.args.set.now in
    let l = c.loop-s in
    let z : l.s ≡ 0 = omega arith in
    let d : Sorting w set 0 l.order l.count = subst (λ (s : ℕ). Sorting w set s l.order l.count) z l.invariant in
    sorting-done w set l.order l.count d
