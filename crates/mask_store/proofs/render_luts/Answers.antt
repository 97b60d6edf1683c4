-- A store that is not allowed is refused; the tables of another one are filled row by row. Assumes nothing.
use Rattle.std.proofs.Common.{rules, sym, ap, ◌∙◌, arith, Ok, Err}
use Rattle.std.proofs.lemmas.Result.{err_from_is_err_and}
use Rattle.mask_store.specs.Masks.{render}
use Rattle.mask_store.proofs.Luts.{luts-are, render-allowed, render-not}
use Rattle.mask_store.proofs.render_luts.Goals as goal

pub returns-in_err-tables : goal.returns-in_err-tables
returns-in_err-tables c =
    let p = err_from_is_err_and c.from_residual.result c.from_residual.ensures.1 in
    p.1 ∙ ap (λ r. Err r) (p.2 ∙ c.in_err-tables.ensures.0) ∙ sym (render-not c.args.store c.in_err-tables.ensures.1)

pub returns : goal.returns
returns c =
    let held = c.in_ok-tables.field-0 in
    sym (render-allowed held.store held.allowed ∙ ap Ok (sym (luts-are held.store (search rules) c.loop-t.luts c.loop-t.invariant.1 (λ t b ht hb. c.loop-t.invariant.2 t b (omega arith) hb))))
    ∙ ap render c.in_ok-tables.ensures.0
