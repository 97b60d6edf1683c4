-- The text is measured, and only a text that fits is written. Assumes nothing.
use native.Mathlib.Omega.{arith}
use Rattle.display.proofs.Calls.{left-short, left-written}
use Rattle.display.proofs.text.Text.put.Goals as goal

pub returns-then-out-length-clause-answer : goal.returns-then-out-length-clause-answer
returns-then-out-length-clause-answer g c = let l = left-short (g.Self.Text.text c.args.self.now) c.args.out.now (omega arith) in l.says

pub returns-then-out-length-clause-buffer : goal.returns-then-out-length-clause-buffer
returns-then-out-length-clause-buffer g c = let l = left-short (g.Self.Text.text c.args.self.now) c.args.out.now (omega arith) in l.holds

pub returns-clause-answer : goal.returns-clause-answer
returns-clause-answer g c = let l = left-written (g.Self.Text.text c.args.self.now) c.args.out.now (omega arith) c.write.ensures in l.says

pub returns-clause-buffer : goal.returns-clause-buffer
returns-clause-buffer g c = let l = left-written (g.Self.Text.text c.args.self.now) c.args.out.now (omega arith) c.write.ensures in l.holds
