-- The flag of byte b is that of the class. Assumes nothing.
use Rattle.std.specs.Prelude.{Some}
use mathlib.Core.Path.{ap, ◌∙◌}
use Prim.Native.Nat.{◌≤◌}
use native.Mathlib.Omega.{arith}
use lib.ListN.{length}
use Rattle.lists.specs.Lists.{eq_option}
use Rattle.lists.proofs.Options.{option-test}
use Rattle.graph_rules.specs.Graph.{State, state_of, to, graph_from}
use Rattle.graph_rules.specs.Layout.{end_step}
use Rattle.graph_rules.proofs.Taken.{taken-long}
use Rattle.graph_rules.proofs.Flat.{from-width}
use Rattle.edges.proofs.Rows.{fill_more, filled}
use Rattle.edges.proofs.class_to.Goals as goal

pub loop-b-preserved : goal.loop-b-preserved
unfolding to
loop-b-preserved c =
    let w = c.args.graph.words.now in
    let st : State = state_of (graph_from w) c.args.s in
    let wide : end_step ≤ length st.steps = omega (arith, from-width w (taken-long w c.args.graph.fits) c.args.s c.requires.s_bound) in
    fill_more st wide c.args.u (omega arith) c.eq.result
    (c.eq.ensures ∙ option-test (Some c.args.u) c.target.result ∙ ap (eq_option (Some c.args.u)) c.target.ensures.value) c.loop-b.invariant

pub returns : goal.returns
returns c =
    let w = c.args.graph.words.now in
    let st : State = state_of (graph_from w) c.args.s in
    let wide : end_step ≤ length st.steps = omega (arith, from-width w (taken-long w c.args.graph.fits) c.args.s c.requires.s_bound) in
    filled st wide c.args.u c.loop-b-test.false c.loop-b.invariant
