-- `cases::part` meets its contract. Assumes nothing.
use Rattle.std.proofs.Common.{add-one}
use Rattle.vectors.specs.Cases.{part_of}
use Rattle.vectors.proofs.cases.part.Goals as goal

pub returns : goal.returns
unfolding part_of
returns c = rw (c.part.ensures, c.saturating_sub.ensures, c.end.ensures.0, c.end-from.ensures.0, c.from-k.ensures, add-one)
