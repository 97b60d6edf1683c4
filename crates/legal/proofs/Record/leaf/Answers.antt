-- A record's first word, which condition 7 judged. Assumes nothing.
use Rattle.legal.proofs.Views.{leaf-is}
use Rattle.legal.proofs.Record.leaf.Goals as goal

pub returns : goal.returns
returns c = leaf-is _ c.args.self.table.legal _ _ c.args.self.some c.args.self.there c.word.ensures
