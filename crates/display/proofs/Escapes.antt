-- A byte as the library escapes it, and the two ways in which a range is written. Assumes nothing.
use mathlib.Core.Path.{◌≡◌, refl, sym, ap, ◌∙◌}
use mathlib.Core.Bool.{Bool, true, false, cond}
use native.Mathlib.Omega.{arith}
use lib.ListN.{length, length-append}
use mathlib.Core.List.{◌++◌}
use Prim.Native.Nat.{ℕ, ◌≤◌, ◌<◌}
use borrow.Author.Tests.{eq-eqb, ne_eqb}
use lib.Dec.{eqb}
use Rattle.texts.specs.Text.{bytes}
use Rattle.lists.specs.Lists.{all_l, eq_list, below}
use Rattle.lists.proofs.Elements.{list-sound, eqb-sound, all-at, get_or-tab0, length-tab}
use Rattle.std.specs.Char.Escape.{escape_ascii}
use Rattle.display.specs.Display.{letter_of, escaped, range_text}

-- the library's escapes are those of the definition, byte by byte
pub escapes-alike : (b : ℕ) → b < 256 → escape_ascii b ≡ escaped b
unfolding escaped letter_of
escapes-alike b h =
    (list-sound eqb eqb-sound).eq (escape_ascii b) (escaped b)
    (sym (ap same (get_or-tab0 256 (λ x. x) b 0 h)) ∙ all-at same (below 256) b 0 each (omega (arith, length-tab 0 256 (λ x. x), h)))
  where
    same : ℕ → Bool
    same x = eq_list eqb (escape_ascii x) (escaped x)

    each : all_l same (below 256) ≡ true
    each = refl

-- ---- a range

module _ (first last : ℕ) where
  pub range-one : first ≡ last → range_text first last ≡ escaped first
  unfolding range_text
  range-one e = rw (eq-eqb first last e)

  pub range-two : (first ≡ last → ⊥) → range_text first last ≡ escaped first ++ (bytes "..=" ++ escaped last)
  unfolding range_text
  range-two n = rw (ne_eqb first last n)

  pub range-starts : length (escaped first) ≤ length (range_text first last)
  unfolding range_text
  range-starts = go (eqb first last)
    where
      go : (b : Bool) → length (escaped first) ≤ length (cond b (escaped first) (escaped first ++ (bytes "..=" ++ escaped last)))
      go true = omega arith
      go false = let n = length-append (escaped first) (bytes "..=" ++ escaped last) in omega arith
