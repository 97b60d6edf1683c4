-- The words are tested, the line is measured, and only a line that fits is written. Assumes nothing.
use mathlib.Core.Path.{sym, ap, ◌∙◌}
use native.Mathlib.Omega.{arith}
use Rattle.std.specs.Prelude.{Err}
use Rattle.std.proofs.lemmas.Result.{err_from_is_err_and}
use Rattle.display.proofs.Conflicts.{line-size}
use Rattle.display.proofs.Calls.{line_refused, line_taken}
use Rattle.display.specs.Answers.{Call}
use Rattle.display.proofs.error_line.Goals as goal

pub returns-in_err-new-clause-answer : goal.returns-in_err-new-clause-answer
returns-in_err-new-clause-answer c =
    let e = c.in_err-new.ensures in
    let p = err_from_is_err_and c.from_residual.result c.from_residual.ensures.1 in
    rw (p.1, p.2) (ap Err e.0 ∙ sym (ap (λ (k : Call). k.answer) (line_refused c.args.errors.now c.args.out.now e.1)))

pub returns-in_err-new-clause-buffer : goal.returns-in_err-new-clause-buffer
returns-in_err-new-clause-buffer c = let e = c.in_err-new.ensures in sym (ap (λ (k : Call). k.buffer) (line_refused c.args.errors.now c.args.out.now e.1))

pub put-requires : goal.put-requires
put-requires c =
    let w = c.args.errors.now in
    let e = c.in_ok-new.ensures in
    let s = line-size w (λ i. omega (arith, c.type_inv.errors i)) in
    let f = c.type_inv.errors 1 in
    rw e.0 (omega arith)

pub returns-clause-answer : goal.returns-clause-answer
returns-clause-answer c =
    let e = c.in_ok-new.ensures in
    rw e.0 at c.put.ensures.answer ∙ sym (ap (λ (k : Call). k.answer) (line_taken c.args.errors.now c.args.out.now e.1))

pub returns-clause-buffer : goal.returns-clause-buffer
returns-clause-buffer c =
    let e = c.in_ok-new.ensures in
    rw e.0 at c.put.ensures.buffer ∙ sym (ap (λ (k : Call). k.buffer) (line_taken c.args.errors.now c.args.out.now e.1))
