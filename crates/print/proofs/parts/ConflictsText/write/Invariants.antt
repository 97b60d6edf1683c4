-- The words left begin with the conflicts left, and their lines are to come. Assumes nothing.
use Rattle.std.proofs.Common.{◌≡◌, true, ◌-◌}
use Rattle.texts.proofs.Writing.{Underway}
use Rattle.print.specs.Parts.{errors_fit, error_lines}
use Rattle.print.proofs.parts.ConflictsText.write.Given as goal

abbrev pub invariant-loop : goal.invariant-loop
invariant-loop l = record {
  fit : errors_fit (l.self.count - l.counter) l.rest ≡ true;
  lines : Underway l.initial.out l.initial.next (error_lines l.self.count l.self.words.now) (error_lines (l.self.count - l.counter) l.rest) l.out l.next;
}
