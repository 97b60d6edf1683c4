-- `masks::mask_has` meets its contract: the test says which of the two it is. Assumes nothing.
use Rattle.std.proofs.Common.{◌*◌, length, arith}
use borrow.Author.Tests.{lt-ltb, le-ltb}
use Rattle.vectors.specs.Masks.{mask_has}
use Rattle.vectors.proofs.masks.mask_has.Goals as goal

pub returns-then-i-classes : goal.returns-then-i-classes
unfolding mask_has
returns-then-i-classes c = simp (lt-ltb (32 * c.args.i) (length c.args.classes.now) (omega arith)) c.bit.ensures

pub returns-else-i-classes : goal.returns-else-i-classes
unfolding mask_has
returns-else-i-classes c = simp (le-ltb (32 * c.args.i) (length c.args.classes.now) (omega arith)) c.test_bit.ensures
