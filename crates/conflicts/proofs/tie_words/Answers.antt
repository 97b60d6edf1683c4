-- One state down: its tie is counted, or it has none. Assumes nothing.
use mathlib.Core.Path.{◌≡◌, sym, subst, ◌∙◌}
use Prim.Native.Nat.{ℕ}
use native.Mathlib.Omega.{arith}
use Rattle.conflicts.specs.Slots.{tie_of}
use Rattle.conflicts.proofs.Conflicts.{Counted, counted_none, counted-pass, counted-more, down-free, down-tied, ties-number, ties-words}
use Rattle.conflicts.proofs.tie_words.Goals as goal

pub loop-s-init : goal.loop-s-init
loop-s-init c =
    let w = c.args.table.words.now in
    let set = c.args.set.now in
    subst (λ (s : ℕ). Counted w set s 0 0) (sym c.states-s.ensures.0) (counted_none w set)

pub loop-s-preserved-in-Some : goal.loop-s-preserved-in-Some
loop-s-preserved-in-Some c =
    let w = c.args.table.words.now in
    let set = c.args.set.now in
    let l = c.loop-s in
    let i = c.in-Some.i in
    let (length_is, few) = c.tie_length.ensures in
    counted-more w set l.s l.errors l.words (omega arith) l.invariant (tie_of i) c.tie_length.result length_is few
    (down-tied c.args.table set l.s (omega arith) l.invariant.inside i c.in-Some.ensures.table (sym c.in-Some.ensures.number))

pub loop-s-preserved : goal.loop-s-preserved
loop-s-preserved c =
    let w = c.args.table.words.now in
    let set = c.args.set.now in
    let l = c.loop-s in
    counted-pass w set l.s l.errors l.words (omega arith) l.invariant
    (down-free c.args.table set l.s (omega arith) l.invariant.inside (sym c.in_default.ensures.number))

pub returns-clause-errors_value : goal.returns-clause-errors_value
returns-clause-errors_value c =
    let w = c.args.table.words.now in
    let set = c.args.set.now in
    let l = c.loop-s in
    let z : l.s ≡ 0 = omega arith in
    let d : Counted w set 0 l.errors l.words = subst (λ (s : ℕ). Counted w set s l.errors l.words) z l.invariant in
    d.number ∙ sym (ties-number w set)

pub returns-clause-words_value : goal.returns-clause-words_value
returns-clause-words_value c =
    let w = c.args.table.words.now in
    let set = c.args.set.now in
    let l = c.loop-s in
    let z : l.s ≡ 0 = omega arith in
    let d : Counted w set 0 l.errors l.words = subst (λ (s : ℕ). Counted w set s l.errors l.words) z l.invariant in
    d.sum ∙ sym (ties-words w set)
