-- What a call leaves, refused or not. Assumes nothing.
use Rattle.std.specs.Prelude.{Result, Ok, Err}
use mathlib.Core.Path.{◌≡◌, refl, sym, ap, ◌∙◌}
use mathlib.Core.Bool.{true, false}
use mathlib.Core.List.{List, ◌++◌}
use Prim.Native.Nat.{ℕ, ◌≤◌, ◌<◌}
use borrow.Author.Tests.{le-leb, lt-leb}
use lib.ListN.{length, drop}
use Rattle.texts.specs.Text.{Wrote}
use Rattle.texts.proofs.Writing.{front-place, front-buffer}
use Rattle.graph_rules.specs.Graph.{graph_from, graph_fits}
use Rattle.display.specs.Display.{displayed, line_of}
use Rattle.display.specs.Answers.{Call, refused, written, display_call, error_fits, line_call}
use Rattle.refusals.specs.declared.Refusal.{Refusal}
use Rattle.refusals.specs.declared.Refusal.TheVariants.{GraphForm, ErrorRoom, NoRoom}

-- an answer and a buffer are a call's
pub record Left (call : Call) (answer : Result ℕ Refusal) (buffer : List ℕ) : Type 0 where
  pub says : answer ≡ call.answer
  pub holds : buffer ≡ call.buffer

pub left_as : {call other : Call} {answer : Result ℕ Refusal} {buffer : List ℕ} → other ≡ call → Left call answer buffer → Left other answer buffer
left_as e l = record { says = l.says ∙ ap (λ (c : Call). c.answer) (sym e); holds = l.holds ∙ ap (λ (c : Call). c.buffer) (sym e) }

pub left-refused : (r : Refusal) (found : List ℕ) → Left (refused r found) (Err r) found
left-refused r found = record { says = refl; holds = refl }

module _ (text found : List ℕ) where
  pub left-short : length found < length text → Left (written text found) (Err NoRoom) found
  unfolding written
  left-short h = left_as (rw (lt-leb (length text) (length found) h)) (left-refused NoRoom found)

  pub left-written : {out : List ℕ} {n : ℕ} → length text ≤ length found → Wrote found 0 text out n → Left (written text found) (Ok n) out
  unfolding written
  left-written {out} {n} h w =
      let e : n ≡ length text = front-place text w in
      rw (le-leb (length text) (length found) h)
      (record { says = ap Ok e; holds = front-buffer text w h ∙ ap (λ (k : ℕ). text ++ drop k found) e })

module _ (w found : List ℕ) where
  pub display-refused : graph_fits w ≡ false → display_call w found ≡ refused GraphForm found
  unfolding display_call
  display-refused e = rw e

  pub display-taken : graph_fits w ≡ true → display_call w found ≡ written (displayed (graph_from w)) found
  unfolding display_call
  display-taken e = rw e

  pub line_refused : error_fits w ≡ false → line_call w found ≡ refused ErrorRoom found
  unfolding line_call
  line_refused e = rw e

  pub line_taken : error_fits w ≡ true → line_call w found ≡ written (line_of w) found
  unfolding line_call
  line_taken e = rw e
