-- The loop's invariant: no more is written than there is, and what is written is the text's front.
use Rattle.std.proofs.Common.{length, ◌≤◌, take}
use Rattle.std.specs.Io.KnownBytes.{Appends}
use Rattle.printer.proofs.output.write_all.Given as goal

abbrev pub invariant-loop : goal.invariant-loop
invariant-loop g l = (l.done ≤ length l.text) × Appends (g.W.Write.contents l.fn.out) (g.W.Write.contents l.out) (take l.done l.text)
