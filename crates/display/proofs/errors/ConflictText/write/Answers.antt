-- The kind, and each leaf after a space. Assumes nothing.
use mathlib.Core.Path.{sym, subst}
use mathlib.Core.List.{List, ◌++◌}
use Prim.Native.Nat.{ℕ, ◌+◌, ◌-◌}
use native.Mathlib.Omega.{arith}
use lib.ListN.{get_or, take, drop}
use Rattle.texts.specs.Text.{bytes, decimal, Counts, Wrote}
use Rattle.texts.proofs.Writing.{wrote_as, wrote_then, starts, ends, goes, underway-as, part-counts, counts-first, counts-then}
use Rattle.display.specs.Display.{line_of}
use Rattle.display.proofs.Conflicts.{spaced, line_first, error-long, items-count, spaced-items, spaced-none}
use Rattle.display.proofs.errors.ConflictText.write.Goals as goal

-- the kind, and then the leaves
first-counts : (w : List ℕ) (at : ℕ) → Counts at (line_of w) → Counts at ((bytes "error " ++ decimal (get_or w 0 0)) ++ spaced w 0)
first-counts w at h = subst (Counts at) (line_first w) h

then-counts : (w : List ℕ) (at : ℕ) → Counts at (line_of w) → {found out : List ℕ} {next : ℕ} → Wrote found at (bytes "error " ++ decimal (get_or w 0 0)) out next
    → Counts next (spaced w 0)
then-counts w at h a = counts-then at (bytes "error " ++ decimal (get_or w 0 0)) (spaced w 0) (first-counts w at h) a

pub bounds-words-0 : goal.bounds-words-0
bounds-words-0 c = let l = error-long c.args.self.now.words.now c.args.self.now.fits in omega arith

pub bounds-words-1 : goal.bounds-words-1
bounds-words-1 c = let l = error-long c.args.self.now.words.now c.args.self.now.fits in omega arith

pub slice_bounds-leaf-items-end : goal.slice_bounds-leaf-items-end
slice_bounds-leaf-items-end c = let l = error-long c.args.self.now.words.now c.args.self.now.fits in omega arith

pub numbered-next-requires : goal.numbered-next-requires
numbered-next-requires c =
    let w = c.args.self.now.words.now in
    counts-first c.args.at (bytes "error " ++ decimal (get_or w 0 0)) (spaced w 0) (first-counts w c.args.at c.requires)

pub loop-leaf-init : goal.loop-leaf-init
loop-leaf-init c = starts _ _ _

pub numbered-next-requires-in-loop-leaf : goal.numbered-next-requires-in-loop-leaf
numbered-next-requires-in-loop-leaf c =
    let w = c.args.self.now.words.now in
    let i = c.loop-leaf.leaf-index in
    let n = items-count w c.args.self.now.fits in
    let ahead = underway-as (spaced-items w c.args.self.now.fits i (omega arith)) c.loop-leaf.invariant in
    part-counts (bytes " " ++ decimal (get_or (take (2 + get_or w 1 0 - 2) (drop 2 w)) i 0)) (spaced w (i + 1)) ahead
    (then-counts w c.args.at c.requires c.numbered-next.ensures)

pub loop-leaf-preserved : goal.loop-leaf-preserved
loop-leaf-preserved c =
    let w = c.args.self.now.words.now in
    let i = c.loop-leaf.leaf-index in
    let n = items-count w c.args.self.now.fits in
    let ahead = underway-as (spaced-items w c.args.self.now.fits i (omega arith)) c.loop-leaf.invariant in
    goes (bytes " " ++ decimal (get_or (take (2 + get_or w 1 0 - 2) (drop 2 w)) i 0)) (spaced w (i + 1)) ahead c.numbered-next-in-loop-leaf.ensures

pub returns : goal.returns
returns c =
    let w = c.args.self.now.words.now in
    let n = items-count w c.args.self.now.fits in
    wrote_as (sym (line_first w))
    (wrote_then c.numbered-next.ensures (ends (underway-as (spaced-none w c.args.self.now.fits c.loop-leaf.leaf-index (omega arith)) c.loop-leaf.invariant)))
