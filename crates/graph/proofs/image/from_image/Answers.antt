-- 13 by the image's length, or the build of its words. Assumes nothing.
use Rattle.std.proofs.Common.{◌∙◌}
use Rattle.graph.proofs.Unpacking.{image-odd, image-long, image-taken}
use Rattle.graph.proofs.image.from_image.Goals as goal
use Rattle.graph.proofs.image.from_image.Goals.{then-image-eq1-via-then-image-eq1, then-image-eq1-via-else-image-eq1+then-image-gt65536}

pub returns-then-image-eq1 : goal.returns-then-image-eq1
returns-then-image-eq1 c =
    elim c.then-image-eq1.branch [
      | then-image-eq1-via-then-image-eq1 w ↦ image-odd c.args.image.now c.args.graph.now c.args.errors.now w.if-image-eq1.true
      | then-image-eq1-via-else-image-eq1+then-image-gt65536 w ↦
          image-long c.args.image.now c.args.graph.now c.args.errors.now w.if-image-eq1.false w.if-image-gt65536.true
    ]

pub returns : goal.returns
returns c =
    c.new.ensures
    ∙ image-taken c.args.image.now c.args.graph.now c.args.errors.now c.if-image-eq1.false c.if-image-gt65536.false _ c.unpack.ensures
