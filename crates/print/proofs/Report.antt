-- What `print` tells in numbers: 29 and 0, or the length of what it prints; and the refusal that it prints is the build's, in numbers. Assumes
-- nothing.
use mathlib.Core.Path.{◌≡◌, refl, ap, ◌∙◌}
use mathlib.Core.List.{List, [], ◌∷◌}
use Prim.Native.Nat.{ℕ, zero, suc, ◌<◌}
use native.Mathlib.Omega.{arith}
use lib.ListN.{length}
use Rattle.lists.specs.Report.{answering}
use Rattle.graph_rules.specs.Table.{table_of}
use Rattle.graph_rules.specs.Build.{Built, build}
use Rattle.std.specs.Prelude.{Result}
use Rattle.refusals.specs.declared.Refusal.{Refusal}
use Rattle.refusals.proofs.Numbers.{number-numbered}
use Rattle.graph.specs.declared.new.Counts.{Counts}
use Rattle.graph.specs.New.{words_of}
use Rattle.graph.specs.Report.{image_refusal}
use Rattle.graph.proofs.Report.{answer_by, image-small, image-answer}
use Rattle.display.specs.Answers.{shown_report}
use Rattle.display.proofs.Report.{written-report}
use Rattle.print.specs.Print.{space, refused_line, printed_by, printed, print_call}
use Rattle.print.specs.Report.{printed_for, print_refusal}

pub print-report : (image found : List ℕ) → shown_report (print_call image found).answer ≡ answering (print_refusal image found) (length (printed image) ∷ [])
unfolding print_call
print-report image found = written-report (printed image) found

pub printed-report : (image : List ℕ) → printed image ≡ printed_for (image_refusal image space space) (build (table_of (words_of image)))
unfolding printed
printed-report image = ap (λ (a : Result Counts Refusal). printed_by a b) (image-answer image space space) ∙ go (image_refusal image space space) (image-small image space space)
  where
    b : Built
    b = build (table_of (words_of image))

    go : (n : ℕ) → n < 17 → printed_by (answer_by n b) b ≡ printed_for n b
    go zero h = refl
    go (suc n) h = ap refused_line (number-numbered n (omega arith))
