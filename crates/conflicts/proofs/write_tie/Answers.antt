-- The kind, the number of leaves, and leaf after leaf. Assumes nothing.
use Rattle.std.specs.Prelude.{Option, Some}
use mathlib.Core.Path.{◌≡◌, sym, ap, ap₂, ◌∙◌}
use mathlib.Core.List.{List, ◌∷◌}
use Prim.Native.Nat.{ℕ, ◌+◌, ◌≤◌, ◌<◌}
use native.Mathlib.Omega.{arith}
use native.Mathlib.Numerals.{add-one, add-two}
use lib.ListN.{length, set, length-set}
use lib.Seq.{sets}
use Rattle.lists.proofs.Runs.{Underway, run-begun, run-one, run_room}
use Rattle.legal.specs.declared.Record.{Record}
use Rattle.legal.proofs.Legal.{legal-sized}
use Rattle.conflicts.specs.Slots.{tie_of}
use Rattle.conflicts.proofs.Slotted.{tie_on, tie-begins, tie-next}
use Rattle.conflicts.proofs.write_tie.Goals as goal

-- at a record there is a place for its leaf
place : (r : Record) (o : Option Record) → o ≡ Some r → {found all out : List ℕ} {start k : ℕ} → start + length all ≤ length found
    → Underway found start all out k (tie_on o) → k < length out
place r o e h u =
    let s = ap length (ap tie_on e ∙ tie-begins r) in
    let r = run_room h u in
    omega arith

pub loop-tie-init : goal.loop-tie-init
loop-tie-init c =
    let r = c.requires in
    record {
      room = simp length-set (omega arith);
      run = run-begun (set (set c.args.errors.now c.args.at 2) (c.args.at + 1) c.tie_length.result) (c.args.at + 2) (tie_of c.args.i);
    }

pub overflow_cast-errors-in-Some : goal.overflow_cast-errors-in-Some
overflow_cast-errors-in-Some c = let z = legal-sized c.in-Some.j.table.words.now c.in-Some.j.table.legal in omega arith

pub bounds-errors-k : goal.bounds-errors-k
bounds-errors-k c = let v = c.loop-tie.invariant in place c.in-Some.j c.loop-tie.tie c.in-Some.is v.room v.run

pub loop-tie-preserved : goal.loop-tie-preserved
loop-tie-preserved c =
    let v = c.loop-tie.invariant in
    let n = c.next_tied-tie in
    let s = ap tie_on c.in-Some.is ∙ tie-next c.in-Some.j n.result (n.ensures.number, n.ensures.table) in
    record {
      room = v.room;
      run = run-one (rw (s ∙ ap (λ (x : ℕ). x ∷ tie_on n.result) (sym c.leaf.ensures.0)) at v.run);
    }

pub returns-clause-value : goal.returns-clause-value
returns-clause-value c =
    let v = c.loop-tie.invariant in
    let n = ap (λ (o : Option Record). length (tie_on o)) c.in_default.is in
    let p = v.run.place in
    omega arith

pub returns-clause-errors_after : goal.returns-clause-errors_after
returns-clause-errors_after c =
    let a = c.args.at in
    let tie = tie_of c.args.i in
    ap (λ (o : Option Record). sets c.loop-tie.errors c.loop-tie.k (tie_on o)) (sym c.in_default.is)
    ∙ c.loop-tie.invariant.run.same
    ∙ ap₂ (λ (x y : ℕ). sets (set (set c.args.errors.now a 2) x c.tie_length.result) y tie) (add-one a) (add-two a)
    ∙ ap (λ (x : ℕ). sets c.args.errors.now a (2 ∷ (x ∷ tie))) c.tie_length.ensures.0
