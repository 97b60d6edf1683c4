-- Buffers in which a call is not refused for want of room. Assumes nothing.
use Rattle.std.specs.Prelude.{Ok}
use mathlib.Core.Path.{◌≡◌, ap, ◌∙◌}
use mathlib.Core.Bool.{true}
use mathlib.Core.List.{List}
use Prim.Native.Nat.{ℕ, ◌+◌, ◌*◌, ◌≤◌, ◌<◌}
use native.Mathlib.Omega.{arith}
use borrow.Author.Tests.{le-leb}
use lib.ListN.{length, get_or}
use Rattle.graph_rules.specs.Graph.{graph_from, graph_fits}
use Rattle.display.specs.Display.{displayed, line_of}
use Rattle.display.specs.Answers.{Call, written, display_call, error_fits, line_call}
use Rattle.display.proofs.Calls.{display-taken, line_taken}
use Rattle.display.proofs.Conflicts.{line-size}
use Rattle.display.proofs.Sizes.{graph-size}

pub written-room : (text found : List ℕ) → length text ≤ length found → (written text found).answer ≡ Ok (length text)
unfolding written
written-room text found h = rw (le-leb (length text) (length found) h)

module _ (w found : List ℕ) (small : (i : ℕ) → get_or w i 0 < 65536) where
  -- 6,477 bytes a state
  pub display-room : graph_fits w ≡ true → 6477 * get_or w 0 0 ≤ length found → (display_call w found).answer ≡ Ok (length (displayed (graph_from w)))
  display-room t h =
      ap (λ (c : Call). c.answer) (display-taken w found t)
      ∙ written-room (displayed (graph_from w)) found (let s = graph-size w t small in omega arith)

  -- 11 bytes, and six a leaf
  pub line-room : error_fits w ≡ true → 11 + 6 * get_or w 1 0 ≤ length found → (line_call w found).answer ≡ Ok (length (line_of w))
  line-room t h =
      ap (λ (c : Call). c.answer) (line_taken w found t)
      ∙ written-room (line_of w) found (let s = line-size w small in omega arith)
