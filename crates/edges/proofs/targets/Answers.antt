-- The target of byte b is marked too, if there is one. Assumes nothing.
use mathlib.Core.Path.{sym, subst, ◌∙◌}
use mathlib.Core.Bool.{Bool}
use mathlib.Core.List.{List}
use Prim.Native.Nat.{◌+◌, ◌≤◌}
use native.Mathlib.Omega.{arith}
use lib.ListN.{length}
use Rattle.std.proofs.lemmas.Option.{MatchOption-at_some}
use Rattle.graph_rules.specs.Graph.{State, state_of, to, graph_from}
use Rattle.graph_rules.specs.Layout.{end_step}
use Rattle.graph_rules.proofs.Taken.{taken-long, taken-few}
use Rattle.graph_rules.proofs.Flat.{from-width}
use Rattle.edges.specs.Edges.{bytes_of}
use Rattle.edges.proofs.Rows.{Marking, mark_start, mark-more, mark-none, marked_all}
use Rattle.edges.proofs.targets.Goals.{in-Some, in_default}
use Rattle.edges.proofs.targets.Goals as goal

pub loop-b-init : goal.loop-b-init
loop-b-init c =
    let w = c.args.graph.words.now in
    let st : State = state_of (graph_from w) c.args.s in
    let wide : end_step ≤ length st.steps = omega (arith, from-width w (taken-long w c.args.graph.fits) c.args.s c.requires) in
    mark_start st wide

pub bounds-found-u : goal.bounds-found-u
bounds-found-u c = let z = taken-few _ c.args.graph.fits in let b = MatchOption-at_some _ _ _ c.in-Some.is c.target.ensures.state in omega arith

pub loop-b-preserved : goal.loop-b-preserved
unfolding to
loop-b-preserved c =
    let w = c.args.graph.words.now in
    let st : State = state_of (graph_from w) c.args.s in
    let wide : end_step ≤ length st.steps = omega (arith, from-width w (taken-long w c.args.graph.fits) c.args.s c.requires) in
    let z = taken-few w c.args.graph.fits in
    let P : List Bool → Type 0 = λ found. Marking (bytes_of st) found (c.loop-b.b + 1) in
    elim c.match-target.branch [
      | in-Some b ↦
          let h = MatchOption-at_some _ _ _ b.in-Some.is c.target.ensures.state in
          subst P (sym b.found-is) (mark-more st wide (omega arith) c.loop-b.invariant b.in-Some.u (sym c.target.ensures.value ∙ b.in-Some.is) (omega arith))
      | in_default b ↦
          subst P (sym b.found-is) (mark-none st wide (omega arith) c.loop-b.invariant (sym c.target.ensures.value ∙ b.in_default.is))
    ]

pub returns : goal.returns
returns c =
    let w = c.args.graph.words.now in
    let st : State = state_of (graph_from w) c.args.s in
    let wide : end_step ≤ length st.steps = omega (arith, from-width w (taken-long w c.args.graph.fits) c.args.s c.requires) in
    marked_all st wide c.loop-b-test.false c.loop-b.invariant
