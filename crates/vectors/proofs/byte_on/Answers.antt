-- `byte_on` meets its contract: no list is as long as the largest number. Assumes nothing.
use Rattle.std.proofs.Common.{◌+◌, arith}
use Rattle.vectors.proofs.PastEnd.{byte_capped}
use Rattle.vectors.proofs.byte_on.Goals as goal

pub returns : goal.returns
returns c = rw (c.byte.ensures, c.saturating_add.ensures) (byte_capped c.args.list.now (c.args.at + c.args.k) _ (omega arith))
