-- The loop's invariant: no more is read than there is room for, the buffer keeps its length, and what was read stands in its front.
use Rattle.std.proofs.Common.{length, ◌≡◌, ◌≤◌, take}
use Rattle.std.specs.Io.KnownBytes.{Consumes}
use Rattle.printer.proofs.input.read_all.Given as goal

abbrev pub invariant-loop : goal.invariant-loop
invariant-loop g l =
    (l.done ≤ length l.buf) × (length l.buf ≡ length l.fn.buf) × Consumes (g.R.Read.remaining l.fn.input) (g.R.Read.remaining l.input) (take l.done l.buf)
