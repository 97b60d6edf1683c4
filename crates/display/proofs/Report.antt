-- What `display` and `error_line` tell in numbers: the lowest refusal that applies, and 0; or the length of the text. Assumes nothing.
use Rattle.std.specs.Prelude.{Ok}
use mathlib.Core.Path.{◌≡◌, refl, sym, ap, ◌∙◌}
use mathlib.Core.Bool.{Bool, true, false, cond, not}
use mathlib.Core.List.{List, [], ◌∷◌, ◌++◌}
use Prim.Native.Nat.{ℕ, suc}
use borrow.Author.Tests.{lt-ltb, le-ltb, leb-true, leb-false}
use lib.Dec.{leb, ltb}
use lib.ListN.{length, drop}
use Rattle.lists.specs.Report.{on, lowest, answering, refusing}
use Rattle.lists.proofs.Bools.{Is, yes-is, no-is, is}
use Rattle.lists.proofs.Reports.{lowest-one}
use Rattle.graph_rules.specs.Graph.{graph_from, graph_fits}
use Rattle.refusals.specs.declared.Refusal.{Refusal}
use Rattle.refusals.specs.declared.Refusal.TheVariants.{GraphForm, ErrorRoom, NoRoom}
use Rattle.refusals.specs.Refusals.{number}
use Rattle.display.specs.Display.{displayed, line_of}
use Rattle.display.specs.Answers.{Call, shown_report, refused, written, display_call, error_fits, line_call}
use Rattle.display.specs.Report.{no_room, display_refusal, line_refusal}

short-is : (a b : ℕ) → ltb b a ≡ not (leb a b)
short-is a b = go (is (leb a b))
  where
    go : Is (leb a b) → ltb b a ≡ not (leb a b)
    go (yes-is q) = le-ltb b a (leb-true a b q) ∙ sym (ap not q)
    go (no-is q) = lt-ltb b a (leb-false a b q) ∙ sym (ap not q)

-- a text that is written whole, or 29
pub written-report : (text found : List ℕ) → shown_report (written text found).answer ≡ answering (no_room text found) (length text ∷ [])
unfolding written
written-report text found =
    go (leb (length text) (length found))
    ∙ ap (λ (short : Bool). answering (on short 29) (length text ∷ [])) (sym (short-is (length text) (length found)))
  where
    go : (fits : Bool)
        → shown_report (cond {A = Call} fits (record { answer = Ok (length text); buffer = text ++ drop (length text) found }) (refused NoRoom found)).answer
        ≡ answering (on (not fits) 29) (length text ∷ [])
    go true = refl
    go false = refl

-- words that do not fit are refused by their number, before 29
fits-report : (r : Refusal) (n : ℕ) → number r ≡ suc n → (fits : Bool) (text found : List ℕ)
    → shown_report (cond fits (written text found) (refused r found)).answer ≡ answering (lowest (on (not fits) (suc n) ∷ no_room text found ∷ [])) (length text ∷ [])
fits-report r n e true text found = written-report text found ∙ ap (λ (k : ℕ). answering k (length text ∷ [])) (sym (lowest-one (no_room text found)))
fits-report r n e false text found = ap (λ (k : ℕ). refusing k 1) e

pub display-report : (words found : List ℕ)
    → shown_report (display_call words found).answer ≡ answering (display_refusal words found) (length (displayed (graph_from words)) ∷ [])
unfolding display_call display_refusal
display-report words found = fits-report GraphForm 11 refl (graph_fits words) (displayed (graph_from words)) found

pub error-line-report : (words found : List ℕ) → shown_report (line_call words found).answer ≡ answering (line_refusal words found) (length (line_of words) ∷ [])
unfolding line_call line_refusal
error-line-report words found = fits-report ErrorRoom 8 refl (error_fits words) (line_of words) found
