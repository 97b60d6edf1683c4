-- The loop of `utf8::code_points`: the text's code points are the sequences that have begun and those of the rest, after the bytes still due
-- (`Left`). Assumes nothing.
use Rattle.std.proofs.Common.{◌≤◌}
use Rattle.utf8.proofs.Dividing.{Left}
use Rattle.utf8.proofs.code_points.Given as goal

abbrev pub invariant-loop-b : goal.invariant-loop-b
invariant-loop-b l = record { most : l.n ≤ l.b-index; left : Left l.text l.n l.due l.low l.high l.b-index }
