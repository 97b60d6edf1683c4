-- A buffer that begins with a text, and what is behind the text. Assumes nothing.
use Rattle.std.proofs.Common.{◌≡◌, sym, ap, ◌∙◌, List, ◌++◌, ℕ, ◌-◌, ◌≤◌, length, take, drop}
use mathlib.Core.Path.{ap₂}
use lib.ListN.{take-append-drop}
use lib.Seq.{take-append_seam, drop-append_seam}
use Rattle.vectors.specs.Parts.{Written}

module _ (a text before : List ℕ) where
  pub text-there : Written a text before → take (length text) a ≡ text
  text-there w = ap (take (length text)) w.same ∙ take-append_seam text _

module _ (a text before : List ℕ) {rest : List ℕ} (behind : rest ≡ drop (length text) a) where
  pub rest-there : Written a text before → rest ≡ take (length a - length text) (drop (length text) before)
  rest-there w = behind ∙ ap (drop (length text)) w.same ∙ drop-append_seam text _

  pub both-there : length a ≤ length before → take (length text) a ≡ text
      → rest ≡ take (length a - length text) (drop (length text) before) → Written a text before
  both-there room front e = record {
    room = room;
    same = sym (take-append-drop (length text) a) ∙ ap₂ ◌++◌ front (sym behind ∙ e);
  }
