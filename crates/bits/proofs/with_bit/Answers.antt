-- What the two masks make of a byte is computed once for all bytes and bits (`or_is`, `and_is`). Assumes nothing.
use Rattle.std.proofs.Common.{ℕ, ◌-◌, ◌<◌, ap, sym, ◌∙◌, bit_and, bit_or, arith}
use Rattle.bits.specs.Bits.{with_bit}
use Rattle.bits.proofs.Bits.{one_shl, or_is, and_is}
use Rattle.bits.proofs.with_bit.Goals as goal

pub returns-then-flag : goal.returns-then-flag
returns-then-flag c =
    let w = c.args.word in
    let k = c.args.k in
    let hw : w < 256 = omega arith in
    let hk : k < 8 = omega arith in
    ap (bit_or w) (one_shl k hk) ∙ or_is w k hw hk ∙ ap (with_bit k w) (sym c.if-flag.true)

pub returns-else-flag : goal.returns-else-flag
returns-else-flag c =
    let w = c.args.word in
    let k = c.args.k in
    let hw : w < 256 = omega arith in
    let hk : k < 8 = omega arith in
    ap (λ (n : ℕ). bit_and w (255 - n)) (one_shl k hk) ∙ and_is w k hw hk ∙ ap (with_bit k w) (sym c.if-flag.false)
