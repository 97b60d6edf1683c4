-- The first range, and each other after a bar. Assumes nothing.
use mathlib.Core.Path.{◌≡◌, sym, subst}
use mathlib.Core.List.{List, ◌++◌}
use Prim.Native.Nat.{ℕ, ◌+◌, ◌≤◌}
use native.Mathlib.Omega.{arith}
use lib.ListN.{length, get_or, take}
use Rattle.texts.specs.Text.{bytes, Counts}
use Rattle.texts.proofs.Writing.{wrote_none, wrote_as, wrote_then, starts, ends, goes, underway-as, part-counts, counts-first, counts-then}
use Rattle.classes.specs.Classes.{Class, Range, ranges}
use Rattle.classes.specs.ClassAnswers.{no_range}
use Rattle.classes.proofs.Answers.{held-all}
use Rattle.display.specs.Display.{class_text}
use Rattle.display.proofs.Bars.{ranged, barred, others, class-none, class-first, barred-next, barred-none}
use Rattle.display.proofs.byte_class.class.Goals as goal

-- the first range, and the rest
first-counts : (c : Class) (rs : List Range) → rs ≡ ranges c → 1 ≤ length rs → (at : ℕ) → Counts at (class_text c)
    → Counts at (ranged (get_or rs 0 no_range) ++ barred (others rs) 0)
first-counts c rs e some at h = subst (Counts at) (class-first c rs e some) h

pub returns-in_default : goal.returns-in_default
returns-in_default c =
    let e = held-all (ranges c.args.class.now) c.ranges-held.ensures.value in
    wrote_as (sym (class-none c.args.class.now _ e c.in_default.len_below)) (wrote_none _ _)

pub range-next-requires : goal.range-next-requires
range-next-requires c =
    let rs = take c.ranges-held.result.count c.ranges-held.result.ranges in
    let e = held-all (ranges c.args.class.now) c.ranges-held.ensures.value in
    counts-first c.args.at (ranged (get_or rs 0 no_range)) (barred (others rs) 0)
    (first-counts c.args.class.now rs e c.in-len1-up.len_at_least c.args.at c.requires)

pub loop-other-init : goal.loop-other-init
loop-other-init c = starts _ _ _

pub byte-next-requires : goal.byte-next-requires
byte-next-requires c =
    let rs = take c.ranges-held.result.count c.ranges-held.result.ranges in
    let i = c.loop-other.other-index in
    let e = held-all (ranges c.args.class.now) c.ranges-held.ensures.value in
    let r = ranged (get_or (others rs) i no_range) in
    let f = first-counts c.args.class.now rs e c.in-len1-up.len_at_least c.args.at c.requires in
    let n = counts-then c.args.at (ranged (get_or rs 0 no_range)) (barred (others rs) 0) f c.range-next.ensures in
    let ahead = underway-as (barred-next (others rs) i (omega arith)) c.loop-other.invariant in
    counts-first c.loop-other.next (bytes "|") r (part-counts (bytes "|" ++ r) (barred (others rs) (i + 1)) ahead n)

pub range-next-requires-in-loop-other : goal.range-next-requires-in-loop-other
range-next-requires-in-loop-other c =
    let rs = take c.ranges-held.result.count c.ranges-held.result.ranges in
    let i = c.loop-other.other-index in
    let e = held-all (ranges c.args.class.now) c.ranges-held.ensures.value in
    let r = ranged (get_or (others rs) i no_range) in
    let f = first-counts c.args.class.now rs e c.in-len1-up.len_at_least c.args.at c.requires in
    let n = counts-then c.args.at (ranged (get_or rs 0 no_range)) (barred (others rs) 0) f c.range-next.ensures in
    let ahead = underway-as (barred-next (others rs) i (omega arith)) c.loop-other.invariant in
    counts-then c.loop-other.next (bytes "|") r (part-counts (bytes "|" ++ r) (barred (others rs) (i + 1)) ahead n) c.byte-next.ensures

pub loop-other-preserved : goal.loop-other-preserved
loop-other-preserved c =
    let rs = take c.ranges-held.result.count c.ranges-held.result.ranges in
    let i = c.loop-other.other-index in
    let ahead = underway-as (barred-next (others rs) i (omega arith)) c.loop-other.invariant in
    goes (bytes "|" ++ ranged (get_or (others rs) i no_range)) (barred (others rs) (i + 1)) ahead (wrote_then c.byte-next.ensures c.range-next-in-loop-other.ensures)

pub returns : goal.returns
returns c =
    let rs = take c.ranges-held.result.count c.ranges-held.result.ranges in
    let e = held-all (ranges c.args.class.now) c.ranges-held.ensures.value in
    wrote_as (sym (class-first c.args.class.now rs e c.in-len1-up.len_at_least))
    (wrote_then c.range-next.ensures (ends (underway-as (barred-none (others rs) c.loop-other.other-index (omega arith)) c.loop-other.invariant)))
