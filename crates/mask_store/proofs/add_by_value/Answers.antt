-- A store that is not allowed is refused. Assumes nothing.
use Rattle.std.proofs.Common.{sym, ap, ◌∙◌, Err}
use Rattle.refusals.specs.declared.Refusal.{Refusal}
use Rattle.mask_store.proofs.Adding.{add-not}
use Rattle.mask_store.proofs.add_by_value.Goals as goal

pub returns-in-Err : goal.returns-in-Err
returns-in-Err c =
    let store = c.args.store in
    ap (λ (r : Refusal). record { answer = Err r; store = store }) c.in-Err.ensures.0 ∙ sym (add-not store c.args.class c.in-Err.ensures.1)
