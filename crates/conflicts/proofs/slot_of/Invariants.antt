-- The place is among those from `low` to `high`. The measure is how many they are. Assumes nothing.
use Rattle.std.proofs.Common.{◌-◌, length}
use Rattle.graph_rules.specs.Table.{table_of}
use Rattle.leaves.specs.Chains.{tie_from}
use Rattle.conflicts.specs.Slots.{tie_of}
use Rattle.conflicts.proofs.Slotted.{Between}
use Rattle.conflicts.proofs.slot_of.Given as goal

abbrev pub invariant-loop-low : goal.invariant-loop-low
invariant-loop-low l = Between (tie_from (table_of l.i.table.words.now)) l.order (length l.order) (tie_of l.i) l.low l.high

abbrev pub decreases-loop-low : goal.decreases-loop-low
decreases-loop-low l = l.high - l.low
