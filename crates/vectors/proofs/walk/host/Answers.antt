-- `walk::host` meets its contract. Assumes nothing.
use Rattle.std.proofs.Common.{◌<◌, ◌≤◌, arith}
use borrow.Author.Tests.{lt-ltb, le-ltb}
use Rattle.vectors.specs.Reading.{byte_at}
use Rattle.vectors.specs.Walk.{host_of}
use Rattle.vectors.proofs.walk.host.Goals as goal

pub returns-then-kind-w : goal.returns-then-kind-w
unfolding host_of
returns-then-kind-w c =
    let h : byte_at c.at-next.result.now 0 < c.args.w.leading = omega arith in
    rw (lt-ltb _ _ (rw c.at-next.ensures at h)) c.at-next.ensures

pub returns : goal.returns
unfolding host_of
returns c =
    let h : c.args.w.leading ≤ byte_at c.at-next.result.now 0 = omega arith in
    rw (le-ltb _ _ (rw c.at-next.ensures at h)) c.at.ensures
