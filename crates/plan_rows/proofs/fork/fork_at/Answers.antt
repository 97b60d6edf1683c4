use Rattle.std.proofs.Common.{sym, ◌∙◌, arith}
use Rattle.graph_rules.specs.Graph.{state_of, graph_from}
use Rattle.graph_rules.proofs.Taken.{taken-few}
use Rattle.edges.proofs.ByTarget.{target-flag}
use Rattle.plan_rows.proofs.Forks.{forking-first, forking-later, forking-not, forked}
use Rattle.plan_rows.proofs.fork.fork_at.Goals as goal
use Rattle.plan_rows.proofs.fork.fork_at.Goals.{then-leads-u, then-count-lt-EDGES, else-count-lt-EDGES, else-leads-u}

pub loop-u-preserved : goal.loop-u-preserved
loop-u-preserved c =
    let st = state_of (graph_from c.args.graph.words.now) c.args.s in
    let f = c.loop-u.invariant in
    let flag = target-flag st c.targets-leads.ensures c.loop-u.u (omega (arith, taken-few c.args.graph.words.now c.args.graph.fits, c.states-u-end.ensures)) in
    elim c.if-leads-u.branch [
      | then-leads-u w ↦
          let led = sym flag ∙ w.if-leads-u.true in
          elim w.if-count-lt-EDGES.branch [
            | then-count-lt-EDGES v ↦ rw (w.count-is, w.lowest-is, v.lowest-is) (forking-first f led v.if-count-lt-EDGES.true)
            | else-count-lt-EDGES v ↦ rw (w.count-is, w.lowest-is, v.lowest-is) (forking-later f led (omega arith))
          ]
      | else-leads-u w ↦ rw (w.count-is, w.lowest-is) (forking-not f (sym flag ∙ w.if-leads-u.false))
    ]

pub returns : goal.returns
returns c =
    let st = state_of (graph_from c.args.graph.words.now) c.args.s in
    let flag = target-flag st c.targets-leads.ensures c.args.s (omega (arith, taken-few c.args.graph.words.now c.args.graph.fits, c.requires.s_bound)) in
    forked c.args.graph.words.now c.args.s c.loop-u.u c.loop-u.invariant (omega (arith, c.states-u-end.ensures)) c.requires.s_bound flag
