-- One error of two words; refused by 9, or both buffers written. Assumes nothing.
use Rattle.std.proofs.Common.{get_or, [], ◌∷◌, refl, arith}
use mathlib.Core.List.{flat_map}
use Rattle.graph_rules.specs.Build.{Built, no_universal_start, no_states}
use Rattle.graph.specs.New.{conflicts}
use Rattle.graph.proofs.Written.{short, enough}
use Rattle.graph.proofs.new.without_start.Goals as goal

abbrev built : Built
built = no_states (no_universal_start ∷ [])

pub returns-then-errors-lt2 : goal.returns-then-errors-lt2
unfolding conflicts flat_map
returns-then-errors-lt2 c = short (get_or c.args.table.words.now 0 0) built c.args.graph.now c.args.errors.now (omega arith)

pub returns : goal.returns
unfolding conflicts flat_map
returns c =
    enough (get_or c.args.table.words.now 0 0) built c.args.graph.now c.args.errors.now (omega arith) _ _ _ c.no_states.ensures c.write_no_start.ensures refl
