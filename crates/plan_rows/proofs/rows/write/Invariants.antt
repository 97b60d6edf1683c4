-- The rows of the states below s stand in front, and the rest is unchanged.
use Rattle.lists.proofs.Buffers.{Filled}
use Rattle.graph_rules.specs.Graph.{graph_from}
use Rattle.mask_store.specs.Masks.{held}
use Rattle.plan_rules.specs.Plan.{base, plan_row}
use Rattle.plan_rows.proofs.Rowwise.{rows_to}
use Rattle.plan_rows.proofs.rows.write.Given as goal

abbrev pub invariant-loop-s : goal.invariant-loop-s
invariant-loop-s l = Filled l.initial.plan (rows_to (plan_row base (held l.masks.store.now) (graph_from l.graph.words.now)) l.s) l.plan
