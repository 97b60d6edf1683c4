use Rattle.std.proofs.Common.{refl, sym, arith}
use Rattle.graph_rules.specs.Graph.{graph_from}
use Rattle.graph_rules.proofs.Flat.{from-length}
use Rattle.graph_rules.proofs.Taken.{taken-few}
use Rattle.plan_rows.proofs.Forks.{fork-table, low_below, high-below, fork-lowest}
use Rattle.runner.proofs.Preparing.{prepared-all, prepared-next}
use Rattle.runner.proofs.prepare.prepare.Goals as goal

pub loop-s-init : goal.loop-s-init
loop-s-init c = record { size = c.requires; are = λ s h j k. absurd (omega arith); rest = λ i h. refl }

pub edge_to-first-requires-clause-target_bound : goal.edge_to-first-requires-clause-target_bound
edge_to-first-requires-clause-target_bound c = low_below (graph_from c.args.graph.words.now) c.loop-s.s c.fork_at-fork.ensures (from-length c.args.graph.words.now)

pub edge_to-first-requires-clause-tabled_value : goal.edge_to-first-requires-clause-tabled_value
edge_to-first-requires-clause-tabled_value c = sym (fork-table (graph_from c.args.graph.words.now) c.loop-s.s c.fork_at-fork.ensures (sym c.by_table-tabled.ensures))

pub edge_to-second-requires-clause-target_bound : goal.edge_to-second-requires-clause-target_bound
edge_to-second-requires-clause-target_bound c = high-below (graph_from c.args.graph.words.now) c.loop-s.s c.fork_at-fork.ensures (from-length c.args.graph.words.now)

pub edge_to-second-requires-clause-tabled_value : goal.edge_to-second-requires-clause-tabled_value
edge_to-second-requires-clause-tabled_value c = sym (fork-table (graph_from c.args.graph.words.now) c.loop-s.s c.fork_at-fork.ensures (sym c.by_table-tabled.ensures))

pub loop-s-preserved : goal.loop-s-preserved
loop-s-preserved c =
    rw (c.edge_place.ensures, c.edge_place-in-loop-s.ensures)
    (prepared-next c.loop-s.invariant (omega (arith, taken-few c.args.graph.words.now c.args.graph.fits))
    (fork-lowest (graph_from c.args.graph.words.now) c.loop-s.s c.fork_at-fork.ensures) c.edge_to-first.result c.edge_to-second.result c.edge_to-first.ensures c.edge_to-second.ensures)

pub returns-clause-prepared : goal.returns-clause-prepared
returns-clause-prepared c = prepared-all (omega (arith, from-length c.args.graph.words.now, c.states-s-end.ensures)) c.loop-s.invariant

pub returns-clause-rest : goal.returns-clause-rest
returns-clause-rest c = λ i h. c.loop-s.invariant.rest i (omega (arith, c.states-s-end.ensures))
