-- `utf8::widths::Widths::of` meets its contract: the table's entry is the width. Assumes nothing.
use Rattle.std.proofs.Common.{sym, ◌∙◌, arith}
use Rattle.utf8.proofs.Dividing.{width-at}
use Rattle.utf8.proofs.widths.Widths.of.Goals as goal

pub returns-in-0 : goal.returns-in-0
returns-in-0 c = sym (width-at _ c.args.self.now.right _ c.ranges.lead.fits) ∙ c.in-0.is

pub returns-in_default : goal.returns-in_default
returns-in_default c = (width-at _ c.args.self.now.right _ c.ranges.lead.fits, omega arith)
