use Rattle.std.proofs.Common.{◌+◌, ◌≤◌, length, arith}
use mathlib.Core.List.{flat_map}
use Rattle.lists.proofs.Buffers.{filled_none, filled-length}
use Rattle.graph_rules.specs.Graph.{graph_from}
use Rattle.graph_rules.proofs.Flat.{from-length}
use Rattle.mask_store.specs.Masks.{held}
use Rattle.plan_rules.specs.Plan.{base, row_size, own_place, plan_row, plan_words}
use Rattle.plan_rules.proofs.RunIsWalk.{base-sane, row-length}
use Rattle.plan_rows.proofs.Rowwise.{filled_row, filled-rows}
use Rattle.plan_rows.proofs.rows.write.Goals as goal

pub loop-s-init : goal.loop-s-init
unfolding flat_map
loop-s-init c = filled_none _

pub set_row-requires : goal.set_row-requires
set_row-requires c =
    omega (arith, c.states-s-end.ensures, from-length c.args.graph.words.now, c.requires.graph_in_bounds, filled-length c.loop-s.invariant)

pub loop-s-preserved : goal.loop-s-preserved
loop-s-preserved c =
    let room : own_place base c.loop-s.s + row_size base ≤ length c.args.plan.now = omega (arith, c.states-s-end.ensures, from-length c.args.graph.words.now, c.requires.graph_in_bounds) in
    filled_row (plan_row base (held c.args.masks.store.now) (graph_from c.args.graph.words.now)) (row-length base base-sane (held c.args.masks.store.now) (graph_from c.args.graph.words.now)) c.loop-s.s c.loop-s.invariant c.row_at.ensures room c.set_row.ensures

pub returns : goal.returns
unfolding plan_words
returns c =
    filled-rows (plan_row base (held c.args.masks.store.now) (graph_from c.args.graph.words.now)) (row-length base base-sane (held c.args.masks.store.now) (graph_from c.args.graph.words.now)) c.loop-s.s (length (graph_from c.args.graph.words.now).states) c.loop-s.invariant
    (omega (arith, c.states-s-end.ensures, from-length c.args.graph.words.now))
