-- Target by target, the line of its edge if it has one. Assumes nothing.
use mathlib.Core.Path.{◌≡◌, sym, ap, subst, ◌∙◌}
use mathlib.Core.List.{◌++◌}
use Prim.Native.Nat.{ℕ, ◌+◌, ◌<◌}
use native.Mathlib.Omega.{arith}
use lib.ListN.{get_or}
use Rattle.texts.specs.Text.{bytes, Counts}
use Rattle.texts.proofs.Writing.{wrote_as, starts, ends, goes, underway-as, part-counts}
use Rattle.classes.specs.Classes.{Class}
use Rattle.graph_rules.specs.Graph.{State, state_of, graph_from}
use Rattle.graph_rules.proofs.Taken.{taken-few}
use Rattle.display.specs.Display.{edge_line}
use Rattle.edges.specs.Edges.{class_to}
use Rattle.edges.proofs.ByTarget.{target-flag}
use Rattle.display.proofs.Lines.{lined, lined-all, lined-edge, lined-skip, lined-none}
use Rattle.display.proofs.state.edge_lines.Goals as goal
use Rattle.display.proofs.state.edge_lines.Goals.{then-found-u, else-found-u}

pub loop-u-init : goal.loop-u-init
loop-u-init c = starts _ _ _

-- the line to u, as the code has its class
same_line : (st : State) (u : ℕ) (class : Class) → class ≡ class_to st u → bytes "\n" ++ edge_line (class_to st u) u ≡ bytes "\n" ++ edge_line class u
same_line st u class e = ap (λ (k : Class). bytes "\n" ++ edge_line k u) (sym e)

pub edge_line-next-requires : goal.edge_line-next-requires
edge_line-next-requires c =
    let w = c.args.graph.words.now in
    let st = state_of (graph_from w) c.args.s in
    let n = get_or w 0 0 in
    let u = c.loop-u.u in
    let few = taken-few w c.args.graph.fits in
    let h : u < n = omega arith in
    let flag = target-flag st c.targets-found.ensures u (omega arith) in
    let ahead = underway-as (lined-edge st n u h (sym flag ∙ c.if-found-u.true)) c.loop-u.invariant in
    subst (Counts c.loop-u.next) (same_line st u c.class_to-class.result c.class_to-class.ensures)
    (part-counts (bytes "\n" ++ edge_line (class_to st u) u) (lined st n (u + 1)) ahead (subst (Counts c.args.at) (lined-all st n) c.requires.counts))

pub loop-u-preserved : goal.loop-u-preserved
loop-u-preserved c =
    let w = c.args.graph.words.now in
    let st = state_of (graph_from w) c.args.s in
    let n = get_or w 0 0 in
    let u = c.loop-u.u in
    let few = taken-few w c.args.graph.fits in
    let h : u < n = omega arith in
    let flag = target-flag st c.targets-found.ensures u (omega arith) in
    elim c.if-found-u.branch [
      | then-found-u k ↦ let ahead = underway-as (lined-edge st n u h (sym flag ∙ k.if-found-u.true)) c.loop-u.invariant in
          rw (k.out-is, k.next-is)
          (goes (bytes "\n" ++ edge_line (class_to st u) u) (lined st n (u + 1)) ahead
          (wrote_as (sym (same_line st u k.class_to-class.result k.class_to-class.ensures)) k.edge_line-next.ensures))
      | else-found-u k ↦ rw (k.out-is, k.next-is) (underway-as (lined-skip st n u h (sym flag ∙ k.if-found-u.false)) c.loop-u.invariant)
    ]

pub returns : goal.returns
returns c =
    let w = c.args.graph.words.now in
    let st = state_of (graph_from w) c.args.s in
    let n = get_or w 0 0 in
    wrote_as (sym (lined-all st n)) (ends (underway-as (lined-none st n c.loop-u.u (omega arith)) c.loop-u.invariant))
