use Rattle.std.proofs.Common.{arith}
use Rattle.runner.proofs.Leading.{state-few, leads, leads-not}
use Rattle.runner.proofs.planned.Planned.along.Goals as goal

pub edge_place-requires : goal.edge_place-requires
edge_place-requires c = (state-few c.args.self.now c.args.s c.requires.s_bound, omega (arith, c.requires.j_lt_edges))

pub offset_bounds-self-edge_place : goal.offset_bounds-self-edge_place
offset_bounds-self-edge_place c = omega (arith, c.edge_place.ensures, state-few c.args.self.now c.args.s c.requires.s_bound, c.requires.j_lt_edges)

pub bounds-self-edge_place : goal.bounds-self-edge_place
bounds-self-edge_place c = omega (arith, c.edge_place.ensures, c.args.self.now.size, state-few c.args.self.now c.args.s c.requires.s_bound, c.requires.j_lt_edges)

pub returns-then-takes : goal.returns-then-takes
returns-then-takes c = rw c.edge_place.ensures (leads c.args.self.now c.args.s c.requires.s_bound c.requires.plain c.args.j c.requires.j_lt_edges c.args.byte c.takes.ensures c.if-takes.true)

pub returns-else-takes : goal.returns-else-takes
returns-else-takes c = leads-not c.args.self.now c.args.s c.requires.s_bound c.requires.plain c.args.j c.requires.j_lt_edges c.args.byte c.takes.ensures c.if-takes.false
