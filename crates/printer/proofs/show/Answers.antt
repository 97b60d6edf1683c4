-- The room suffices, so the text is there whole. Assumes nothing.
use Rattle.std.proofs.Common.{rules, sym, subst, length-take-le}
use Rattle.std.specs.Io.KnownBytes.{Appends}
use Rattle.printer.proofs.Printed.{taken, within, in_front}
use Rattle.printer.proofs.show.Goals as goal

pub slice_bounds-text-end : goal.slice_bounds-text-end
slice_bounds-text-end g c =
    within c.args.image.now c.room-text.result c.in-Ok.ensures.room c.room-text.ensures c.in-Ok.n c.print.new.out c.in-Ok.ensures.answer (search rules)

pub slice_bounds-write_all-end : goal.slice_bounds-write_all-end
slice_bounds-write_all-end g c =
    sym
    (length-take-le c.in-Ok.n c.print.new.out
    (within c.args.image.now c.room-text.result c.in-Ok.ensures.room c.room-text.ensures c.in-Ok.n c.print.new.out c.in-Ok.ensures.answer (search rules)))

pub expect-requires : goal.expect-requires
expect-requires g c = absurd (taken c.args.image.now c.room-text.result c.in-Err.ensures.room c.room-text.ensures c.in-Err.field-0 c.in-Err.ensures.answer)

pub returns-in-Ok : goal.returns-in-Ok
returns-in-Ok g c done =
    subst (Appends _ _)
    (in_front c.args.image.now c.room-text.result c.in-Ok.ensures.room c.room-text.ensures c.in-Ok.n c.print.new.out c.in-Ok.ensures.answer c.in-Ok.ensures.buffer)
    (c.write_all.ensures done)
