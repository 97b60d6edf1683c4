-- `masks::store_in` meets its contract. Assumes nothing.
use Rattle.std.proofs.Common.{length}
use borrow.Author.Tests.{eq-eqb, ne_eqb}
use Rattle.capi.specs.Stores.{store_in}
use Rattle.capi.proofs.masks.store_in.Goals as goal

pub returns-in-Some : goal.returns-in-Some
unfolding store_in
returns-in-Some c = let whole = c.in-Some.ensures.cases in rw (eq-eqb (length c.args.tables.now) 2048 whole.long, whole.same)

pub returns-in-None : goal.returns-in-None
unfolding store_in
returns-in-None c = rw (ne_eqb (length c.args.tables.now) 2048 c.in-None.ensures.cases)
