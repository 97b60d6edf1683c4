-- Nothing without a leaf; otherwise its name, the leaf, and a bracket. Assumes nothing.
use mathlib.Core.Path.{◌≡◌, sym, ap, ◌∙◌}
use mathlib.Core.List.{List, ◌++◌, append_assoc}
use Prim.Native.Nat.{ℕ}
use Rattle.std.specs.Prelude.{Option, Some}
use Rattle.texts.specs.Text.{bytes, decimal}
use Rattle.texts.proofs.Writing.{wrote_then, wrote_as}
use Rattle.display.specs.Display.{mark_text}
use Rattle.display.proofs.state.mark.Goals as goal

-- the text of a leaf's mark
leafed : (name : List ℕ) (o : Option ℕ) (l : ℕ) → o ≡ Some l → mark_text name o ≡ (name ++ decimal l) ++ bytes ") "
leafed name o l e = ap (mark_text name) e ∙ sym (append_assoc name (decimal l) (bytes ") "))

pub returns : goal.returns
returns c = wrote_as (sym (leafed c.args.name.now c.args.leaf c.in-Some.leaf c.in-Some.is)) (wrote_then c.numbered-next.ensures c.pair.ensures)
