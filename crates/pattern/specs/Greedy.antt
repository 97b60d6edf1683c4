-- What the code answers of one record in the greedy test. Definitions only.
use Rattle.std.specs.Prelude.{Bool, false, ◌&&◌, List, get_or, Option, Some, None}
use Rattle.trees.specs.declared.nodes.Node.{Node}
use Rattle.trees.specs.declared.nodes.Shape.{Shape}
use Rattle.trees.specs.declared.nodes.Shape.TheVariants as shape
use Rattle.pattern.specs.declared.greedy.Note.{Note}

abbrev pub no_note : Note
no_note = record { dot = false; found = false }

-- whether a chain has what is looked for, by the note of its first record
abbrev pub chain_has : Option Node → List Note → Bool
chain_has None notes = false
chain_has (Some node) notes = (get_or notes node.number no_note).found

-- and whether a record's tree has, by the notes of those that it names
abbrev pub greedy_part : Shape → List Note → Bool
greedy_part shape.Empty notes = false
greedy_part (shape.Literal text) notes = false
greedy_part (shape.Class dot) notes = false
greedy_part shape.Look notes = false
greedy_part (shape.Repetition min greedy unbounded node) notes = (get_or notes node.number no_note).dot && unbounded && greedy
greedy_part (shape.Capture node) notes = (get_or notes node.number no_note).found
greedy_part (shape.Concat first) notes = chain_has first notes
greedy_part (shape.Alternation first) notes = chain_has first notes
