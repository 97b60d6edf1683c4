-- `trees::tree::times_named` meets its contract: a record names lower ones, so there is a count of each. Assumes nothing.
use Rattle.std.proofs.Common.{arith}
use Rattle.trees.proofs.Naming.{tally-starts, tally-most, raised-most, tally-goes, tally-ends, names-in}
use Rattle.trees.proofs.tree.times_named.Goals as goal

pub loop-i-init : goal.loop-i-init
loop-i-init c = tally-starts _

pub overflow_add-times : goal.overflow_add-times
overflow_add-times c =
    let in' = names-in _ c.requires _ (omega arith) (omega arith) c.record_at-r.result c.record_at-r.ensures in
    omega (arith, tally-most _ c.loop-i.times c.loop-i.i c.loop-i.invariant c.record_at-r.result.child in'.0, c.requires.most)

pub overflow_add-times-in-loop-i : goal.overflow_add-times-in-loop-i
overflow_add-times-in-loop-i c =
    let in' = names-in _ c.requires _ (omega arith) (omega arith) c.record_at-r.result c.record_at-r.ensures in
    let r = c.record_at-r in
    omega (arith, raised-most _ c.loop-i.times c.loop-i.i c.loop-i.invariant r.result r.ensures in'.0 r.result.next in'.1, c.requires.most)

pub loop-i-preserved : goal.loop-i-preserved
loop-i-preserved c =
    let in' = names-in _ c.requires _ (omega arith) (omega arith) c.record_at-r.result c.record_at-r.ensures in
    let r = c.record_at-r in
    tally-goes _ c.loop-i.times c.loop-i.i c.loop-i.invariant r.result r.ensures in'.0 (omega arith) in'.1

pub returns : goal.returns
returns c = tally-ends _ c.loop-i.times c.loop-i.i (omega arith) c.loop-i.invariant
