-- `walk::noted` meets its contract. Assumes nothing.
use Rattle.std.proofs.Common.{◌≡◌, ◌<◌, ◌≤◌, cond, arith}
use borrow.Author.Tests.{lt-ltb, le-ltb}
use Rattle.vectors.specs.Reading.{byte_at}
use Rattle.vectors.specs.Walk.{noted, leads}
use Rattle.vectors.proofs.walk.noted.Goals as goal
use Rattle.vectors.proofs.walk.noted.Goals.{then-leads, else-leads}

pub returns-clause-value : goal.returns-clause-value
unfolding noted
returns-clause-value c =
    let a = c.args in
    let host : c.if-leads.result ≡ cond (leads a.list.now a.w) a.w.at a.w.host =
    elim c.if-leads.branch [
      | then-leads w ↦
          let h : byte_at c.at.result.now 0 < a.w.leading = omega arith in
          rw (lt-ltb _ _ (rw c.at.ensures at h)) w.result-is
      | else-leads w ↦
          let h : a.w.leading ≤ byte_at c.at.result.now 0 = omega arith in
          rw (le-ltb _ _ (rw c.at.ensures at h)) w.result-is
    ] in
    rw (host, c.after.ensures, c.word.ensures.0, c.saturating_add.ensures, c.first_of.ensures, c.counted.ensures, c.from-kind.ensures, c.byte_on.ensures)
