use Rattle.std.proofs.Common.{arith}
use Rattle.runner.proofs.Leading.{state-few, edge-there, place-there, not-table, mask-held, takes-nothing, takes-tests, takes-mask}
use Rattle.runner.proofs.planned.Planned.takes.Goals as goal

pub edge-requires : goal.edge-requires
edge-requires c = edge-there c.args.self.now c.args.s c.requires.s_bound c.args.j c.requires.j_lt_edges

pub edge_place-requires : goal.edge_place-requires
edge_place-requires c = (state-few c.args.self.now c.args.s c.requires.s_bound, c.requires.j_lt_edges)

pub offset_bounds-self-edge_place : goal.offset_bounds-self-edge_place
offset_bounds-self-edge_place c = omega (arith, c.edge_place.ensures, state-few c.args.self.now c.args.s c.requires.s_bound, c.requires.j_lt_edges)

pub bounds-self-edge_place : goal.bounds-self-edge_place
bounds-self-edge_place c = omega (arith, c.edge_place.ensures, place-there c.args.self.now c.args.s c.requires.s_bound c.args.j c.requires.j_lt_edges)

pub mask_has-requires : goal.mask_has-requires
mask_has-requires c = mask-held c.args.self.now c.args.s c.requires.s_bound c.requires.plain c.args.j c.requires.j_lt_edges c.in-Mask.ensures

pub unreachable-requires : goal.unreachable-requires
unreachable-requires c = not-table c.args.self.now c.args.s c.requires.s_bound c.requires.plain c.args.j c.requires.j_lt_edges c.in-Table.ensures

pub returns-in-Nothing : goal.returns-in-Nothing
returns-in-Nothing c = takes-nothing c.args.self.now c.args.s c.requires.s_bound c.requires.plain c.args.j c.requires.j_lt_edges c.args.byte c.in-Nothing.ensures

pub returns-in-Tests : goal.returns-in-Tests
returns-in-Tests c = takes-tests c.args.self.now c.args.s c.requires.s_bound c.requires.plain c.args.j c.requires.j_lt_edges c.args.byte c.in-Tests.ensures (rw (← c.edge_place.ensures) c.edge_holds.ensures)

pub returns-in-Mask : goal.returns-in-Mask
returns-in-Mask c = takes-mask c.args.self.now c.args.s c.requires.s_bound c.requires.plain c.args.j c.requires.j_lt_edges c.args.byte c.in-Mask.ensures c.mask_has.ensures
