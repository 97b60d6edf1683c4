-- The first target that is no state breaks the condition. Assumes nothing.
use native.Mathlib.Omega.{arith}
use mathlib.Core.Path.{sym}
use Rattle.lists.proofs.Judged.{judged-false}
use Rattle.legal.proofs.Judging.{targets-judged}
use Rattle.legal.proofs.conditions.Counted.targets_fit.Goals as goal

pub returns-then-n-row_word : goal.returns-then-n-row_word
returns-then-n-row_word c =
    sym (judged-false (targets-judged c.args.self.words.now c.args.self.sized) c.loop-s.s (omega arith)
    (λ f. let b = f c.loop-c.c (omega arith) in omega arith))

pub returns : goal.returns
returns c = sym ((targets-judged c.args.self.words.now c.args.self.sized).all (λ s h. c.loop-s.invariant s (omega arith)))
