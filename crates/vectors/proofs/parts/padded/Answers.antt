-- `parts::padded` meets its contract: where the text stands in front, what stands behind it decides. Assumes nothing.
use Rattle.std.proofs.Common.{sym, ◌∙◌}
use Rattle.std.proofs.lemmas.Bool.Decides.{Decides-eqb}
use Rattle.std.proofs.lemmas.Slice.Eq.{slice_eq-Decides}
use Rattle.vectors.proofs.parts.padded.Goals as goal

pub returns-then-starts_with : goal.returns-then-starts_with
returns-then-starts_with c =
    let there = c.if-starts_with.true in
    let front = (slice_eq-Decides Decides-eqb _ _ _ c.starts_with.ensures.value).0 there in (
      (λ e. record { room = c.starts_with.ensures.bound there; same = sym front; rest = sym c.rest_is.ensures ∙ e }),
      (λ w. c.rest_is.ensures ∙ w.rest),
    )
