-- `read::balthwyr_run` meets its contract: the answer of `run` on the block's store is told. Assumes nothing.
use Rattle.std.proofs.Common.{rules}
use Rattle.capi.proofs.HeldPlans.{run_in_lem}
use Rattle.capi.proofs.read.balthwyr_run.Goals as goal

pub returns : goal.returns
returns c =
    let a = c.args in
    rw (run_in_lem a.graph.now a.plan.now a.tables.now a.count a.text.now, ← c.store_in-held.ensures, ← c.run.ensures) (search rules)
