-- Each turn counts a leaf, and goes on at the next. Assumes nothing.
use Rattle.std.specs.Prelude.{Option}
use mathlib.Core.Path.{ap}
use native.Mathlib.Omega.{arith}
use lib.ListN.{length}
use Rattle.legal.specs.declared.Record.{Record}
use Rattle.conflicts.proofs.Ascents.{tie-few}
use Rattle.conflicts.proofs.Slotted.{tie_on, tie-next}
use Rattle.conflicts.proofs.tie_length.Goals as goal

pub overflow_add-number : goal.overflow_add-number
overflow_add-number c =
    let few = tie-few c.args.i.table.words.now c.args.i.table.legal c.args.i.number c.args.i.there in
    let s = c.loop-at.invariant in
    omega arith

pub loop-at-preserved : goal.loop-at-preserved
loop-at-preserved c =
    let n = c.next_tied-at in
    let s = c.loop-at.invariant in
    let p = ap (λ (o : Option Record). length (tie_on o)) c.in-Some.is in
    let step = ap length (tie-next c.in-Some.j n.result (n.ensures.number, n.ensures.table)) in
    omega arith

pub returns : goal.returns
returns c =
    let few = tie-few c.args.i.table.words.now c.args.i.table.legal c.args.i.number c.args.i.there in
    let s = c.loop-at.invariant in
    let p = ap (λ (o : Option Record). length (tie_on o)) c.in_default.is in
    omega arith
