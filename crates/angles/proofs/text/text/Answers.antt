-- The parts of the text are written one after another. Assumes nothing.
use Rattle.std.proofs.Common.{arith}
use Rattle.texts.proofs.Writing.{wrote_then}
use Rattle.angles.specs.Angles.{text_of}
use Rattle.angles.proofs.Laid.{hyphen-size, degrees-size}
use Rattle.angles.proofs.text.text.Goals as goal

pub number-degrees-requires : goal.number-degrees-requires
number-degrees-requires c = omega (arith, hyphen-size c.args.below, degrees-size c.args.size c.requires, c.hyphen-signed.ensures.place)

pub byte-point-requires : goal.byte-point-requires
byte-point-requires c =
    omega (arith, hyphen-size c.args.below, degrees-size c.args.size c.requires, c.hyphen-signed.ensures.place, c.number-degrees.ensures.place)

pub pair-requires : goal.pair-requires
pair-requires c =
    omega (arith, hyphen-size c.args.below, degrees-size c.args.size c.requires, c.hyphen-signed.ensures.place, c.number-degrees.ensures.place, c.byte-point.ensures.place)

pub returns : goal.returns
unfolding text_of
returns c = wrote_then c.hyphen-signed.ensures (wrote_then c.number-degrees.ensures (wrote_then c.byte-point.ensures c.pair.ensures))
