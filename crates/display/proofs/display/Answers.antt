-- The words are tested, the text is measured, and only a text that fits is written. Assumes nothing.
use mathlib.Core.Path.{sym, ap, ◌∙◌}
use native.Mathlib.Omega.{arith}
use Rattle.std.specs.Prelude.{Err}
use Rattle.std.proofs.lemmas.Result.{err_from_is_err_and}
use Rattle.graph_rules.proofs.Taken.{taken-few}
use Rattle.display.proofs.Sizes.{graph-size}
use Rattle.display.proofs.Calls.{display-refused, display-taken}
use Rattle.display.specs.Answers.{Call}
use Rattle.display.proofs.display.Goals as goal

pub returns-in_err-new-clause-answer : goal.returns-in_err-new-clause-answer
returns-in_err-new-clause-answer c =
    let e = c.in_err-new.ensures in
    let p = err_from_is_err_and c.from_residual.result c.from_residual.ensures.1 in
    rw (p.1, p.2) (ap Err e.0 ∙ sym (ap (λ (k : Call). k.answer) (display-refused c.args.graph.now c.args.out.now e.1)))

pub returns-in_err-new-clause-buffer : goal.returns-in_err-new-clause-buffer
returns-in_err-new-clause-buffer c = let e = c.in_err-new.ensures in sym (ap (λ (k : Call). k.buffer) (display-refused c.args.graph.now c.args.out.now e.1))

pub put-requires : goal.put-requires
put-requires c =
    let w = c.args.graph.now in
    let e = c.in_ok-new.ensures in
    let s = graph-size w e.1 (λ i. omega (arith, c.type_inv.graph i)) in
    let f = taken-few w e.1 in
    rw e.0 (omega arith)

pub returns-clause-answer : goal.returns-clause-answer
returns-clause-answer c =
    let e = c.in_ok-new.ensures in
    rw e.0 at c.put.ensures.answer ∙ sym (ap (λ (k : Call). k.answer) (display-taken c.args.graph.now c.args.out.now e.1))

pub returns-clause-buffer : goal.returns-clause-buffer
returns-clause-buffer c =
    let e = c.in_ok-new.ensures in
    rw e.0 at c.put.ensures.buffer ∙ sym (ap (λ (k : Call). k.buffer) (display-taken c.args.graph.now c.args.out.now e.1))
