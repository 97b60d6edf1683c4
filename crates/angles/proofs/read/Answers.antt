-- What a text's parts tell is what it is. Assumes nothing.
use Rattle.std.proofs.Common.{ℤ, Bool, sym, ap, ◌∙◌, arith}
use mir.Syntax.{w32}
use mir.Val.{to_z, of_z}
use Rattle.angles.specs.declared.Angle.TheVariants.{Hundredths}
use Rattle.angles.specs.Angles.{signed}
use Rattle.angles.proofs.Integers.{signed_back}
use Rattle.angles.proofs.Means.{is-missing, read-angle, read-far, read-none}
use Rattle.angles.proofs.read.Goals as goal

pub returns-then-is_missing : goal.returns-then-is_missing
returns-then-is_missing c = sym (is-missing c.args.text.now (sym c.is_missing.ensures ∙ c.if-is_missing.true))

pub returns-in-Some : goal.returns-in-Some
returns-in-Some c =
    let parts = c.without_sign-parts.result in
    let n = c.in-Some.size in
    ap Hundredths
    (ap (λ (v : ℤ). to_z w32 (of_z w32 v)) c.signed.ensures
    ∙ signed_back parts.below n (omega arith)
    ∙ ap (λ (x : Bool). signed x n) c.without_sign-parts.ensures.below)
    ∙ sym (read-angle c.args.text.now c.without_sign-parts.ensures.body (sym c.is_missing.ensures ∙ c.if-is_missing.false) c.magnitude.ensures c.in-Some.is (omega arith))

pub returns-in_default : goal.returns-in_default
returns-in_default c =
    sym (read-far c.args.text.now c.without_sign-parts.ensures.body (sym c.is_missing.ensures ∙ c.if-is_missing.false) c.magnitude.ensures c.in-Some.is (omega arith))

pub returns-in_default-2 : goal.returns-in_default-2
returns-in_default-2 c =
    sym (read-none c.args.text.now c.without_sign-parts.ensures.body (sym c.is_missing.ensures ∙ c.if-is_missing.false) c.magnitude.ensures c.in_default.is)
