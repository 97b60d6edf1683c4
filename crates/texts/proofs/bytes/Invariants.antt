-- The bytes so far are written.
use lib.ListN.{take}
use Rattle.texts.specs.Text.{Wrote}
use Rattle.texts.proofs.bytes.Given as goal

abbrev pub invariant-loop-b : goal.invariant-loop-b
invariant-loop-b l = Wrote l.fn.out l.at (take l.b-index l.text) l.out l.next
