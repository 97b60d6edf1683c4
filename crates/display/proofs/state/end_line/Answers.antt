-- Nothing without a target; otherwise one line. Assumes nothing.
use mathlib.Core.Path.{◌≡◌, sym, ap, ◌∙◌}
use mathlib.Core.List.{◌++◌, append-nil}
use Prim.Native.Nat.{ℕ}
use Rattle.std.specs.Prelude.{Option, Some}
use Rattle.texts.specs.Text.{bytes, decimal, after}
use Rattle.texts.proofs.Writing.{wrote_as}
use Rattle.display.specs.Display.{end_lines}
use Rattle.display.proofs.state.end_line.Goals as goal

line : (o : Option ℕ) (u : ℕ) → o ≡ Some u → after (bytes "\n") (end_lines o) ≡ bytes "\n    EOI => state" ++ decimal u
line o u e = ap (λ (o : Option ℕ). after (bytes "\n") (end_lines o)) e ∙ append-nil (bytes "\n    EOI => state" ++ decimal u)

pub returns : goal.returns
returns c = wrote_as (sym (line c.args.target c.in-Some.target c.in-Some.is)) c.numbered.ensures
