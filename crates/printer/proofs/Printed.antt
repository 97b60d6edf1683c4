-- A room as long as the most that is printed: the call of `print` is not refused, and what is to be printed stands in the front. Assumes nothing.
use Rattle.std.proofs.Common.{◌≡◌, ℕ, ◌≤◌, List, ◌++◌, length, take, drop, arith, ap, ◌∙◌, le_refl, take_all}
use borrow.Author.Tests.{le-leb}
use lib.Seq.{take-append-le}
use Rattle.std.specs.Prelude.{Result, Ok, Err}
use Rattle.refusals.specs.declared.Refusal.{Refusal}
use Rattle.display.specs.Answers.{written}
use Rattle.print.specs.Print.{printed, print_call, most_printed}
use Rattle.print.proofs.Rooms.{print-room}

same_bytes : {m n : ℕ} → ◌≡◌ {A = Result ℕ Refusal} (Ok m) (Ok n) → m ≡ n
same_bytes e = cc

not_refused : {r : Refusal} {n : ℕ} → ◌≡◌ {A = Result ℕ Refusal} (Err r) (Ok n) → ⊥
not_refused e = cc

buffer_of : (text found : List ℕ) → length text ≤ length found → (written text found).buffer ≡ text ++ drop (length text) found
unfolding written
buffer_of text found h = rw (le-leb (length text) (length found) h)

front_of : (text rest : List ℕ) → take (length text) (text ++ rest) ≡ text
front_of text rest = take-append-le (length text) text rest (le_refl (length text)) ∙ take_all (length text) text (le_refl (length text))

front_written : (text found : List ℕ) → length text ≤ length found → take (length text) (written text found).buffer ≡ text
front_written text found h = ap (take (length text)) (buffer_of text found h) ∙ front_of text _

module _ (image found : List ℕ) (most : length (printed image) ≤ most_printed) (room : most_printed ≡ length found) where
  fits : length (printed image) ≤ length found
  fits = omega (arith, most, room)

  pub taken : (r : Refusal) → Err r ≡ (print_call image found).answer → ⊥
  taken r e = not_refused (e ∙ print-room image found fits)

  size : (n : ℕ) → Ok n ≡ (print_call image found).answer → n ≡ length (printed image)
  size n e = same_bytes (e ∙ print-room image found fits)

  pub in_front : (n : ℕ) (now : List ℕ) → Ok n ≡ (print_call image found).answer → now ≡ (print_call image found).buffer → take n now ≡ printed image
  unfolding print_call
  in_front n now e b = ap (λ k. take k now) (size n e) ∙ ap (take (length (printed image))) b ∙ front_written (printed image) found fits

  pub within : (n : ℕ) (now : List ℕ) → Ok n ≡ (print_call image found).answer → length now ≡ length found → n ≤ length now
  within n now e same = omega (arith, size n e, fits, same)
