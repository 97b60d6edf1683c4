-- `cases::at` meets its contract: a place that is held back at the largest number has no case. Assumes nothing.
use Rattle.std.proofs.Common.{◌+◌, arith}
use Rattle.vectors.specs.Cases.{case_at}
use Rattle.vectors.proofs.PastEnd.{part_capped}
use Rattle.vectors.proofs.cases.at.Goals as goal

pub returns : goal.returns
unfolding case_at
returns c =
    rw (c.part.ensures, c.saturating_add.ensures, c.word.ensures.0) (part_capped c.args.list.now (c.args.at + 4) _ _ (omega arith))
