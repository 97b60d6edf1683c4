-- Two leaves that differ decide; else the tie that ends first; else the next two. Assumes nothing.
use Rattle.std.specs.Prelude.{Some, None}
use mathlib.Core.Path.{sym, ap₂, ◌∙◌}
use lib.Dec.{ltb}
use Rattle.conflicts.proofs.Slotted.{before-none, unlike-before, equal-before, ended-before}
use Rattle.conflicts.proofs.tie_before.Goals as goal

pub returns-then-x-y : goal.returns-then-x-y
returns-then-x-y c =
    let x = c.leaf-x.ensures.0 in
    let y = c.leaf-y.ensures.0 in
    ap₂ ltb x y ∙ sym (unlike-before c.loop-i.i c.loop-i.j (λ e. c.if-x-y.true (x ∙ e ∙ sym y))) ∙ c.loop-i.invariant

pub returns-in_default : goal.returns-in_default
returns-in_default c =
    let same = sym c.leaf-x.ensures.0 ∙ c.if-x-y.false ∙ c.leaf-y.ensures.0 in
    let one = c.in_default.ensures in
    sym (ended-before c.loop-i.i c.loop-i.j same (one.number, one.table)) ∙ c.loop-i.invariant

pub returns-in_default-next_tied : goal.returns-in_default-next_tied
returns-in_default-next_tied c =
    let same = sym c.leaf-x.ensures.0 ∙ c.if-x-y.false ∙ c.leaf-y.ensures.0 in
    let i = c.in-Some.one in
    let one = c.in-Some.ensures in
    let other = c.in_default-next_tied.ensures in
    sym (before-none i)
    ∙ sym (equal-before c.loop-i.i c.loop-i.j same (Some i) None (one.number, one.table) (other.number, other.table))
    ∙ c.loop-i.invariant

pub loop-i-preserved : goal.loop-i-preserved
loop-i-preserved c =
    let same = sym c.leaf-x.ensures.0 ∙ c.if-x-y.false ∙ c.leaf-y.ensures.0 in
    let one = c.in-Some.ensures in
    let other = c.in-Some-next_tied.ensures in
    sym (equal-before c.loop-i.i c.loop-i.j same (Some c.in-Some.one) (Some c.in-Some-next_tied.other) (one.number, one.table) (other.number, other.table)) ∙ c.loop-i.invariant
