-- The text that is printed, by what the code holds. Definitions only.
use Rattle.std.specs.Prelude.{List, ℕ}
use Rattle.refusals.specs.Refusals.{number}
use Rattle.print.specs.Print.{refused_line}
use Rattle.print.specs.Parts.{words_text}
use Rattle.print.specs.declared.parts.Printed.{Printed}
use Rattle.print.specs.declared.parts.Printed.TheVariants.{Built, Refused}

abbrev pub printed_text : Printed → List ℕ
printed_text (Built graph conflicts) = words_text graph.words.now conflicts.words.now conflicts.count
printed_text (Refused r) = refused_line (number r)
