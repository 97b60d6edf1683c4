-- A record's second word, which condition 7 judged. Assumes nothing.
use mathlib.Core.Path.{ap, ◌∙◌}
use native.Mathlib.Omega.{arith}
use Rattle.graph_rules.specs.Graph.{or_none}
use Rattle.legal.proofs.Views.{next-is, named-lower}
use Rattle.legal.proofs.Record.next.Goals as goal

pub named-requires : goal.named-requires
named-requires c =
    let n = next-is _ c.args.self.table.legal _ _ c.args.self.some c.args.self.there c.word.ensures in
    let h = c.args.self.there in
    omega (arith, n.1)

pub returns-clause-number : goal.returns-clause-number
returns-clause-number c = c.named.ensures.number ∙ ap (or_none 0) (next-is _ c.args.self.table.legal _ _ c.args.self.some c.args.self.there c.word.ensures).0

pub returns-clause-lower : goal.returns-clause-lower
returns-clause-lower c =
    named-lower c.named.result _ _ c.named.ensures.number (next-is _ c.args.self.table.legal _ _ c.args.self.some c.args.self.there c.word.ensures).1
