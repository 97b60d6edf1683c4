-- The rows passed that stay stand together, renamed, and the rows not passed are as they were. Assumes nothing.
use Rattle.std.proofs.Common.{◌≡◌, ℕ, ◌<◌, length, get_or, take}
use Rattle.lists.specs.Lists.{select}
use Rattle.graph_rules.specs.Graph.{graph_from}
use Rattle.relabel.proofs.Packing.{Packed}
use Rattle.relabel.proofs.relabel.Given as goal

abbrev pub invariant-loop-s : goal.invariant-loop-s
invariant-loop-s l =
    (l.k ≡ length (select (take l.s l.stay) (graph_from l.fn.graph).states))
    × Packed l.names (select (take l.s l.stay) (graph_from l.fn.graph).states) l.s l.fn.graph l.graph
    × ((i : ℕ) → get_or l.fn.graph i 0 < 65536)
