-- A text, then a number. Assumes nothing.
use Rattle.texts.proofs.Writing.{wrote_then}
use Rattle.texts.proofs.numbered.Goals as goal

pub returns : goal.returns
returns c = wrote_then c.bytes-next.ensures c.number.ensures
