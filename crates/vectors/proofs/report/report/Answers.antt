-- `report::report` meets its contract. Assumes nothing.
use Rattle.texts.proofs.Writing.{wrote_then}
use Rattle.vectors.proofs.report.report.Goals as goal

pub returns-clause-out_after : goal.returns-clause-out_after
returns-clause-out_after c =
    (wrote_then c.kind_lines-next.ensures.wrote (wrote_then c.first_line-next.ensures.wrote c.end_line-next.ensures)).buffer
