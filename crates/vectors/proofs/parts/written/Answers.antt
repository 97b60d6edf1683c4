-- `parts::written` meets its contract: where the text stands in front, what stands behind it decides. Assumes nothing.
use Rattle.std.proofs.Common.{refl, sym}
use mathlib.Core.Bool.{false≢true}
use Rattle.std.proofs.lemmas.Bool.Decides.{Decides-eqb}
use Rattle.std.proofs.lemmas.Slice.Eq.{slice_eq-Decides}
use Rattle.vectors.proofs.Written.{text-there, rest-there, both-there}
use Rattle.vectors.proofs.parts.written.Goals as goal

pub returns-then-a-before : goal.returns-then-a-before
returns-then-a-before c =
    let a = c.args in
    let cases = c.in-Some.ensures.cases in
    let front = (slice_eq-Decides Decides-eqb _ _ _ (sym cases.0)).0 in
    let rest = slice_eq-Decides Decides-eqb _ _ _ c.eq.ensures in (
      (λ e. both-there a.a.now a.text.now a.before.now cases.1 c.if-a-before.true (front refl) (rest.0 e)),
      (λ w. rest.1 (rest-there a.a.now a.text.now a.before.now cases.1 w)),
    )

pub returns-in-None : goal.returns-in-None
returns-in-None c =
    let a = c.args in (
      (λ e. absurd (false≢true e)),
      (λ w. (slice_eq-Decides Decides-eqb _ _ _ (sym c.in-None.ensures.cases)).1 (text-there a.a.now a.text.now a.before.now w)),
    )
