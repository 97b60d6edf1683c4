-- An end step to a state other than 0, or no leaf of all the bytes: not endless. Assumes nothing.
use mathlib.Core.Path.{sym, ◌∙◌}
use Rattle.graph_rules.specs.Table.{table_of}
use Rattle.clean.proofs.Rows.{endless-not, endless-leaf}
use Rattle.clean.proofs.Leaved.endless.Goals as goal

pub returns-then-step-ne0 : goal.returns-then-step-ne0
returns-then-step-ne0 c = sym (endless-not (table_of c.args.self.table.words.now) c.args.s _ c.step.ensures.0 c.if-step-ne0.true)

pub returns : goal.returns
returns c = c.is_some.ensures ∙ endless-leaf (table_of c.args.self.table.words.now) c.args.s _ c.step.ensures.0 c.if-step-ne0.false c.bytes_leaf.result c.bytes_leaf.ensures
