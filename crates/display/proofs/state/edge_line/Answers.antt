-- The line's parts in a row. Assumes nothing.
use mathlib.Core.Path.{◌≡◌, refl, sym, ap}
use mathlib.Core.List.{◌++◌}
use Prim.Native.Nat.{ℕ, ◌+◌}
use native.Mathlib.Omega.{arith}
use lib.ListN.{length, length-append}
use Rattle.classes.specs.Classes.{Class}
use Rattle.texts.specs.Text.{bytes, decimal}
use Rattle.texts.proofs.Writing.{wrote_then, wrote_as}
use Rattle.display.specs.Display.{class_text, edge_line}
use Rattle.display.proofs.state.edge_line.Goals as goal

parts : (c : Class) (u : ℕ) → bytes "\n" ++ edge_line c u ≡ bytes "\n    " ++ (class_text c ++ (bytes " => state" ++ decimal u))
unfolding edge_line
parts c u = refl

size : (c : Class) (u : ℕ) → length (bytes "\n" ++ edge_line c u) ≡ 14 + (length (class_text c) + length (decimal u))
size c u = omega (arith, simp length-append at (ap length (parts c u)))

pub bytes-next-requires : goal.bytes-next-requires
bytes-next-requires c = omega (arith, c.requires, size c.args.class.now c.args.u)

pub class-next-requires : goal.class-next-requires
class-next-requires c = omega (arith, c.requires, size c.args.class.now c.args.u, c.bytes-next.ensures.place)

pub numbered-requires : goal.numbered-requires
numbered-requires c = omega (arith, c.requires, size c.args.class.now c.args.u, c.bytes-next.ensures.place, c.class-next.ensures.place)

pub returns : goal.returns
returns c = wrote_as (sym (parts c.args.class.now c.args.u)) (wrote_then c.bytes-next.ensures (wrote_then c.class-next.ensures c.numbered.ensures))
