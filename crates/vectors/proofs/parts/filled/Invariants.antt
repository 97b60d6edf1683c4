-- The loop of `parts::filled`: byte after byte.
use Rattle.lists.proofs.Tabled.{Tabled}
use Rattle.vectors.specs.Parts.{fill_at}
use Rattle.vectors.proofs.parts.filled.Given as goal

abbrev pub invariant-loop-k : goal.invariant-loop-k
invariant-loop-k l = Tabled 0 65536 (fill_at l.i) l.byte-items l.k
