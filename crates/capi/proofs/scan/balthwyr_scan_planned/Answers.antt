-- `scan::balthwyr_scan_planned` meets its contract: the answer of `scan_planned` on the block's store is told. Assumes nothing.
use Rattle.std.proofs.Common.{rules}
use Rattle.capi.specs.Scans.{scan_of}
use Rattle.capi.proofs.HeldPlans.{list-in}
use Rattle.capi.proofs.scan.balthwyr_scan_planned.Goals as goal

pub returns-clause-out_value : goal.returns-clause-out_value
returns-clause-out_value c =
    let a = c.args in
    rw (list-in a.graph.now a.plan.now a.tables.now a.count a.text.now (scan_of a.scan.now) a.out.now, ← c.store_in-held.ensures, ← c.scan_of.ensures, ← c.scan_planned-listed.ensures.listed) (search rules)

pub returns-clause-scan_after : goal.returns-clause-scan_after
returns-clause-scan_after c =
    let a = c.args in
    rw (list-in a.graph.now a.plan.now a.tables.now a.count a.text.now (scan_of a.scan.now) a.out.now, ← c.store_in-held.ensures, ← c.scan_of.ensures, ← c.scan_planned-listed.ensures.listed) (search rules)

pub returns-clause-out_after : goal.returns-clause-out_after
returns-clause-out_after c =
    let a = c.args in
    rw (list-in a.graph.now a.plan.now a.tables.now a.count a.text.now (scan_of a.scan.now) a.out.now, ← c.store_in-held.ensures, ← c.scan_of.ensures) c.scan_planned-listed.ensures.buffer
