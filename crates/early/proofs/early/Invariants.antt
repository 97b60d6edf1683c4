-- The states passed have their early leaf beside the accept they had, all other words are as they were. Assumes nothing.
use Rattle.std.proofs.Common.{ℕ, ◌<◌, get_or}
use Rattle.words.proofs.Marking.{Marked}
use Rattle.early.proofs.Marks.{mark}
use Rattle.early.proofs.early.Given as goal

abbrev pub invariant-loop-s : goal.invariant-loop-s
invariant-loop-s l = Marked l.fn.graph (mark l.fn.graph) l.s l.graph × ((i : ℕ) → get_or l.fn.graph i 0 < 65536)
