-- `report::end_line` meets its contract. Assumes nothing.
use native.Mathlib.Omega.{arith}
use borrow.Author.Tests.{eq-eqb, ne_eqb}
use lib.ListN.{length}
use Rattle.texts.proofs.Decimals.{decimal-64}
use Rattle.texts.proofs.Writing.{wrote_then}
use Rattle.vectors.specs.Report.{end_line}
use Rattle.vectors.proofs.report.end_line.Goals as goal

pub numbered-next-requires : goal.numbered-next-requires
numbered-next-requires c = omega (arith, decimal-64 c.checksum-sum.result (omega arith))

pub byte-requires : goal.byte-requires
byte-requires c = omega (arith, c.numbered-next.ensures.place, decimal-64 c.checksum-sum.result (omega arith))

pub returns-then-w-list : goal.returns-then-w-list
unfolding end_line
returns-then-w-list c =
    rw (eq-eqb c.args.w.at (length c.args.list.now) (omega arith), ← c.checksum-sum.ensures)
    (wrote_then c.numbered-next.ensures c.byte.ensures)

pub numbered-next-requires-2 : goal.numbered-next-requires-2
numbered-next-requires-2 c = omega (arith, decimal-64 c.checksum-sum.result (omega arith))

pub byte-requires-2 : goal.byte-requires-2
byte-requires-2 c = omega (arith, c.numbered-next-2.ensures.place, decimal-64 c.checksum-sum.result (omega arith))

pub returns : goal.returns
unfolding end_line
returns c =
    rw (ne_eqb c.args.w.at (length c.args.list.now) c.if-w-list.false, ← c.checksum-sum.ensures)
    (wrote_then c.numbered-next-2.ensures c.byte-2.ensures)
