-- `pattern::greedy::greedy_part`: a node's number has a note. Assumes nothing.
use Rattle.std.proofs.Common.{arith}
use Rattle.trees.proofs.NodeLaws.{number_few}
use Rattle.pattern.proofs.greedy.greedy_part.Goals as goal

pub offset_bounds-notes-part : goal.offset_bounds-notes-part
offset_bounds-notes-part c = omega (arith, number_few c.in-Repetition.part)

pub bounds-notes-part : goal.bounds-notes-part
bounds-notes-part c = number_few c.in-Repetition.part

pub offset_bounds-notes-part-in-Capture : goal.offset_bounds-notes-part-in-Capture
offset_bounds-notes-part-in-Capture c = omega (arith, number_few c.in-Capture.part)

pub bounds-notes-part-in-Capture : goal.bounds-notes-part-in-Capture
bounds-notes-part-in-Capture c = number_few c.in-Capture.part
