-- `report::name_byte` meets its contract. Assumes nothing.
use Rattle.std.proofs.Common.{arith}
use borrow.Author.Tests.{eq-eqb, ne_eqb}
use Rattle.vectors.specs.Report.{name_byte}
use Rattle.vectors.proofs.report.name_byte.Goals as goal

pub returns-then-b-eq10-clause-wrote : goal.returns-then-b-eq10-clause-wrote
unfolding name_byte
returns-then-b-eq10-clause-wrote c = rw (eq-eqb c.args.b 10 (omega arith)) c.kind_text.ensures.wrote

pub returns-clause-wrote : goal.returns-clause-wrote
unfolding name_byte
returns-clause-wrote c = rw (ne_eqb c.args.b 10 c.if-b-eq10.false) c.byte.ensures
