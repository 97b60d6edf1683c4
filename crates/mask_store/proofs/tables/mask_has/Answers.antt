-- It is the test of one bit. Assumes nothing.
use Rattle.mask_store.specs.Masks.{mask_has}
use Rattle.mask_store.proofs.tables.mask_has.Goals as goal

pub returns : goal.returns
unfolding mask_has
returns c = c.test_bit.ensures
