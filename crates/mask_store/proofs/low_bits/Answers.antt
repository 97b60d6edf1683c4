-- A mask by 2 ^ n - 1 is a remainder by 2 ^ n. Assumes nothing.
use lib.Bits.{and_mask}
use Rattle.bits.proofs.Bits.{one_shl}
use Rattle.mask_store.proofs.low_bits.Goals as goal

pub returns-then-n-lt-TABLE_MASKS : goal.returns-then-n-lt-TABLE_MASKS
returns-then-n-lt-TABLE_MASKS c = rw (one_shl c.args.n c.if-n-lt-TABLE_MASKS.true) (and_mask c.args.word c.args.n)
