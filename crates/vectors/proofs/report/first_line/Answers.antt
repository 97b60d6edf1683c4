-- `report::first_line` meets its contract: nothing is written where no case differs. Assumes nothing.
use Rattle.texts.proofs.Writing.{wrote_none}
use Rattle.vectors.proofs.report.first_line.Goals as goal

pub returns-in-None-clause-wrote : goal.returns-in-None-clause-wrote
returns-in-None-clause-wrote c = rw c.in-None.is (wrote_none _ _)
