-- The text, then the line end. Assumes nothing.
use Rattle.texts.proofs.Writing.{wrote_then}
use Rattle.print.proofs.parts.line.Goals as goal

pub returns : goal.returns
returns g c = wrote_then c.write-next.ensures c.byte.ensures
