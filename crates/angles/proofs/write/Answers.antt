-- What is written in range, or seven zeros. Assumes nothing.
use Rattle.std.proofs.Common.{[], sym, ap, ◌∙◌}
use Rattle.std.specs.Prelude.{Option, unwrap_or}
use mir.Syntax.{w32}
use mir.ValLaws.{to_z-of_z}
use Rattle.angles.specs.declared.Written.{Written}
use Rattle.angles.specs.Angles.{padded, written_in_range}
use Rattle.angles.proofs.Laid.{written-unwrap_or}
use Rattle.angles.proofs.write.Goals as goal

pub returns : goal.returns
returns c =
    let v = c.args.hundredths in
    let some = c.write_in_range.ensures ∙ ap written_in_range (to_z-of_z w32 v c.ranges.hundredths) in
    c.unwrap_or.ensures ∙ ap (λ (o : Option Written). unwrap_or o (padded [])) some ∙ sym (written-unwrap_or v)
