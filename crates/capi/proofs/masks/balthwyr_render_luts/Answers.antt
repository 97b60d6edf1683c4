-- `masks::balthwyr_render_luts` meets its contract. Assumes nothing.
use Rattle.std.specs.Prelude.{Ok, Err}
use Rattle.std.proofs.Common.{◌≡◌, refl, sym, ap, ◌∙◌}
use Rattle.mask_store.specs.Masks.{render}
use Rattle.capi.specs.Stores.{rendered, render_to}
use Rattle.capi.proofs.HeldStores.{render-held}
use Rattle.capi.proofs.masks.balthwyr_render_luts.Goals as goal

pub returns-in-Ok : goal.returns-in-Ok
unfolding render_to
returns-in-Ok c =
    let a = c.args in
    let e : rendered a.tables.now a.count ≡ Ok c.in-Ok.rendered = sym (render-held a.tables.now a.count) ∙ ap render (sym c.store_in.ensures) ∙ sym c.in-Ok.ensures in
    rw (e, ← c.flat.ensures) c.put.ensures

pub returns-in-Err : goal.returns-in-Err
unfolding render_to
returns-in-Err c =
    let a = c.args in
    let e : rendered a.tables.now a.count ≡ Err c.in-Err.refusal = sym (render-held a.tables.now a.count) ∙ ap render (sym c.store_in.ensures) ∙ sym c.in-Err.ensures in
    rw e (c.from.ensures, refl)
