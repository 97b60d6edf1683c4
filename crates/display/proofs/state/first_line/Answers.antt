-- The line's parts in a row. Assumes nothing.
use mathlib.Core.Path.{◌≡◌, refl, sym, ap}
use mathlib.Core.List.{◌++◌}
use Prim.Native.Nat.{ℕ, ◌+◌}
use native.Mathlib.Omega.{arith}
use lib.ListN.{length, length-append}
use Rattle.std.specs.Prelude.{Option}
use Rattle.texts.specs.Text.{bytes, decimal}
use Rattle.texts.proofs.Writing.{wrote_then, wrote_as}
use Rattle.display.specs.Display.{mark_text, first_line}
use Rattle.display.proofs.state.first_line.Goals as goal

-- the parts: state s with the leaves a and e, or none
parts : (s : ℕ) (a e : Option ℕ) → first_line s a e
    ≡ (bytes "  state" ++ decimal s) ++ (bytes " => StateData(" ++ (mark_text (bytes "accept(") a ++ (mark_text (bytes "early(") e ++ bytes ") {")))
unfolding first_line
parts s a e = refl

size : (s : ℕ) (a e : Option ℕ) → length (first_line s a e) ≡ 24 + (length (decimal s) + (length (mark_text (bytes "accept(") a) + length (mark_text (bytes "early(") e)))
size s a e = omega (arith, simp length-append at (ap length (parts s a e)))

pub numbered-next-requires : goal.numbered-next-requires
numbered-next-requires c = omega (arith, c.requires, size c.args.s c.args.accept c.args.early)

pub bytes-next-requires : goal.bytes-next-requires
bytes-next-requires c = omega (arith, c.requires, size c.args.s c.args.accept c.args.early, c.numbered-next.ensures.place)

pub mark-next-requires : goal.mark-next-requires
mark-next-requires c = omega (arith, c.requires, size c.args.s c.args.accept c.args.early, c.numbered-next.ensures.place, c.bytes-next.ensures.place)

pub mark-next-requires-2 : goal.mark-next-requires-2
mark-next-requires-2 c = omega (arith, c.requires, size c.args.s c.args.accept c.args.early, c.numbered-next.ensures.place, c.bytes-next.ensures.place, c.mark-next.ensures.place)

pub bytes-requires : goal.bytes-requires
bytes-requires c = omega (arith, c.requires, size c.args.s c.args.accept c.args.early, c.numbered-next.ensures.place, c.bytes-next.ensures.place, c.mark-next.ensures.place, c.mark-next-2.ensures.place)

pub returns : goal.returns
returns c =
    wrote_as (sym (parts c.args.s c.args.accept c.args.early))
    (wrote_then c.numbered-next.ensures (wrote_then c.bytes-next.ensures (wrote_then c.mark-next.ensures (wrote_then c.mark-next-2.ensures c.bytes.ensures))))
