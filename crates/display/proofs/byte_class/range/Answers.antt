-- Both ends with the dots between them, or one byte. Assumes nothing.
use mathlib.Core.Path.{sym, ap}
use native.Mathlib.Omega.{arith}
use lib.ListN.{length, length-append}
use Rattle.texts.proofs.Writing.{wrote_then, wrote_as}
use Rattle.display.proofs.Escapes.{range-starts, range-one, range-two}
use Rattle.display.proofs.byte_class.range.Goals as goal

pub escape_default-next-requires : goal.escape_default-next-requires
escape_default-next-requires c = omega (arith, c.requires, range-starts c.args.range.first c.args.range.last)

pub returns-then-range : goal.returns-then-range
returns-then-range c = wrote_as (sym (range-one c.args.range.first c.args.range.last c.if-range.true)) c.escape_default-next.ensures

pub bytes-next-requires : goal.bytes-next-requires
bytes-next-requires c =
    let e = range-two c.args.range.first c.args.range.last c.if-range.false in
    omega (arith, c.requires, c.escape_default-next.ensures.place, simp length-append at (ap length e))

pub escape_default-requires : goal.escape_default-requires
escape_default-requires c =
    let e = range-two c.args.range.first c.args.range.last c.if-range.false in
    omega (arith, c.requires, c.escape_default-next.ensures.place, c.bytes-next.ensures.place, simp length-append at (ap length e))

pub returns : goal.returns
returns c =
    wrote_as (sym (range-two c.args.range.first c.args.range.last c.if-range.false))
    (wrote_then c.escape_default-next.ensures (wrote_then c.bytes-next.ensures c.escape_default.ensures))
