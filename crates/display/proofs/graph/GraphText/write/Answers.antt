-- The first state, and each other after a line end. Assumes nothing.
use mathlib.Core.Path.{sym, subst}
use mathlib.Core.List.{List, ◌++◌}
use Prim.Native.Nat.{ℕ, ◌+◌, ◌<◌}
use native.Mathlib.Omega.{arith}
use lib.ListN.{get_or}
use Rattle.texts.specs.Text.{bytes, Counts, Wrote}
use Rattle.texts.proofs.Writing.{wrote_none, wrote_as, wrote_then, starts, ends, goes, underway-as, part-counts, counts-first, counts-then}
use Rattle.graph_rules.specs.Graph.{graph_from}
use Rattle.display.specs.Display.{displayed}
use Rattle.display.proofs.States.{text_of, listed, display-none, display-first, listed_next, listed-none}
use Rattle.display.proofs.graph.GraphText.write.Goals as goal

-- the first state, and the rest
first-counts : (w : List ℕ) (at : ℕ) → 0 < get_or w 0 0 → Counts at (displayed (graph_from w)) → Counts at (text_of w 0 ++ listed w 1)
first-counts w at some h = subst (Counts at) (display-first w some) h

rest-counts : (w : List ℕ) (at : ℕ) → 0 < get_or w 0 0 → Counts at (displayed (graph_from w)) → {found out : List ℕ} {next : ℕ} → Wrote found at (text_of w 0) out next
    → Counts next (listed w 1)
rest-counts w at some h a = counts-then at (text_of w 0) (listed w 1) (first-counts w at some h) a

pub returns-then-n-eq0 : goal.returns-then-n-eq0
returns-then-n-eq0 c = wrote_as (sym (display-none c.args.self.now.words.now (omega arith))) (wrote_none _ _)

pub state-next-requires-clause-counts : goal.state-next-requires-clause-counts
state-next-requires-clause-counts c =
    let w = c.args.self.now.words.now in
    let some : 0 < get_or w 0 0 = omega arith in
    counts-first c.args.at (text_of w 0) (listed w 1) (first-counts w c.args.at some c.requires)

pub loop-s-init : goal.loop-s-init
loop-s-init c = starts _ _ _

pub byte-next-requires : goal.byte-next-requires
byte-next-requires c =
    let w = c.args.self.now.words.now in
    let s = c.loop-s.s in
    let some : 0 < get_or w 0 0 = omega arith in
    let ahead = underway-as (listed_next w s (omega arith)) c.loop-s.invariant in
    let h = part-counts (bytes "\n" ++ text_of w s) (listed w (s + 1)) ahead (rest-counts w c.args.at some c.requires c.state-next.ensures) in
    counts-first c.loop-s.next (bytes "\n") (text_of w s) h

pub state-next-requires-in-loop-s-clause-counts : goal.state-next-requires-in-loop-s-clause-counts
state-next-requires-in-loop-s-clause-counts c =
    let w = c.args.self.now.words.now in
    let s = c.loop-s.s in
    let some : 0 < get_or w 0 0 = omega arith in
    let ahead = underway-as (listed_next w s (omega arith)) c.loop-s.invariant in
    let h = part-counts (bytes "\n" ++ text_of w s) (listed w (s + 1)) ahead (rest-counts w c.args.at some c.requires c.state-next.ensures) in
    counts-then c.loop-s.next (bytes "\n") (text_of w s) h c.byte-next.ensures

pub loop-s-preserved : goal.loop-s-preserved
loop-s-preserved c =
    let w = c.args.self.now.words.now in
    let s = c.loop-s.s in
    let ahead = underway-as (listed_next w s (omega arith)) c.loop-s.invariant in
    goes (bytes "\n" ++ text_of w s) (listed w (s + 1)) ahead (wrote_then c.byte-next.ensures c.state-next-in-loop-s.ensures)

pub returns : goal.returns
returns c =
    let w = c.args.self.now.words.now in
    let some : 0 < get_or w 0 0 = omega arith in
    wrote_as (sym (display-first w some))
    (wrote_then c.state-next.ensures (ends (underway-as (listed-none w c.loop-s.s (omega arith)) c.loop-s.invariant)))
