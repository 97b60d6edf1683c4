-- A leaf: no tie. No leaf, and a chain: a tie. Assumes nothing.
use mathlib.Core.Path.{sym, ap, ◌∙◌}
use mathlib.Core.Bool.{not}
use native.Mathlib.Omega.{arith}
use Rattle.graph_rules.specs.Table.{table_of}
use Rattle.legal.proofs.Legal.{legal-sized}
use Rattle.clean.proofs.Ties.{tied-leaf, tied-head}
use Rattle.clean.proofs.Leaved.tied.Goals as goal

pub bounds-self-s : goal.bounds-self-s
bounds-self-s c = let z = legal-sized _ c.args.self.table.legal in omega arith

pub offset_bounds-self-s : goal.offset_bounds-self-s
offset_bounds-self-s c = let z = legal-sized _ c.args.self.table.legal in omega arith

pub returns-then-is_none : goal.returns-then-is_none
returns-then-is_none c =
    let s = c.args.s in
    c.is_some.ensures
    ∙ tied-head (table_of c.args.self.table.words.now) s _ (c.args.self.leaves s c.requires) (c.is_none.ensures ∙ ap not c.if-is_none.true) c.head.result c.head.ensures.number

pub returns-else-is_none : goal.returns-else-is_none
returns-else-is_none c =
    let s = c.args.s in
    c.if-is_none.false
    ∙ sym (tied-leaf (table_of c.args.self.table.words.now) s _ (c.args.self.leaves s c.requires) (c.is_none.ensures ∙ ap not c.if-is_none.false))
