-- `masks::balthwyr_add_test_to_lut` meets its contract: the call on the block's store is told, and its store kept. Assumes nothing.
use Rattle.std.proofs.Common.{rules}
use Rattle.capi.specs.Lent.{flags_of}
use Rattle.capi.proofs.HeldStores.{add-held}
use Rattle.capi.proofs.masks.balthwyr_add_test_to_lut.Goals as goal

pub returns-clause-flags_value : goal.returns-clause-flags_value
returns-clause-flags_value c =
    let a = c.args in
    rw (← add-held a.tables.now a.count.now (flags_of a.flags.now), ← c.store_in.ensures, ← c.flags_of.ensures, ← c.add_by_loan-added.ensures) (search rules)

pub returns-clause-tables_after : goal.returns-clause-tables_after
returns-clause-tables_after c =
    let a = c.args in
    rw (← add-held a.tables.now a.count.now (flags_of a.flags.now), ← c.store_in.ensures, ← c.flags_of.ensures, ← c.add_by_loan-added.ensures) c.keep.ensures.tables_after

pub returns-clause-count_after : goal.returns-clause-count_after
returns-clause-count_after c =
    let a = c.args in
    rw (← add-held a.tables.now a.count.now (flags_of a.flags.now), ← c.store_in.ensures, ← c.flags_of.ensures, ← c.add_by_loan-added.ensures) c.keep.ensures.count_after
