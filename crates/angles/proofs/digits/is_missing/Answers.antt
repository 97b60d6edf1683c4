-- Slices are compared byte by byte. Assumes nothing.
use Rattle.std.proofs.Common.{ap, sym, ◌∙◌}
use Rattle.std.specs.Cmp.Lexicographic.{pointwise}
use lib.Dec.{eqb}
use Rattle.angles.specs.Angles.{hyphens}
use Rattle.angles.proofs.Parts.{same_text}
use Rattle.angles.proofs.digits.is_missing.Goals as goal

pub returns : goal.returns
returns c = c.eq.ensures ∙ ap (pointwise eqb c.args.text.now) c.as_slice.ensures ∙ sym (same_text c.args.text.now hyphens)
