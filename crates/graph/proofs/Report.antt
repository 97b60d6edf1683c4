-- What `new` and `from_image` tell in numbers: the lowest refusal that applies, with zeros; or the counts of the build's lists. Assumes nothing.
use mathlib.Core.Path.{◌≡◌, refl, sym, ap, ◌∙◌}
use mathlib.Core.Bool.{Bool, true, false, cond, ◌||◌}
use mathlib.Core.List.{List, [], ◌∷◌}
use Prim.Native.Nat.{ℕ, zero, suc, ◌%◌, ◌<◌}
use native.Mathlib.Omega.{arith}
use borrow.Author.Tests.{ne_eqb}
use lib.Dec.{eqb, ltb}
use lib.ListN.{length, get_or}
use Rattle.lists.specs.Report.{on, lowest, answering}
use Rattle.lists.proofs.Reports.{lowest-one}
use Rattle.std.specs.Prelude.{Result}
use Rattle.refusals.specs.Refusals.{numbered, answered}
use Rattle.refusals.proofs.Numbers.{answered-told}
use Rattle.refusals.specs.declared.Refusal.{Refusal}
use Rattle.refusals.specs.declared.Refusal.TheVariants.{GraphRoom, ErrorRoom, ImageLength}
use Rattle.graph_rules.specs.Table.{table_of, refusal}
use Rattle.graph_rules.specs.Build.{Built, build}
use Rattle.graph_rules.proofs.Shape.{refusal-small}
use Rattle.graph.specs.declared.new.Counts.{Counts}
use Rattle.graph.specs.New.{count_values, built_report, Outcome, refused_by, counts_of, conflicts, wrote, wrote_or_9, written_or, new_of, words_of, image_of}
use Rattle.graph.specs.Report.{new_refusal, image_refusal, build_values}
use Rattle.graph_rules.specs.Layout.{graph_size}

-- the answer by the refusal's number, 0 for none
abbrev pub answer_by : ℕ → Built → Result Counts Refusal
answer_by n b = answered n (counts_of b)

answer-report : (n : ℕ) (b : Built) → n < 17 → built_report (answer_by n b) ≡ answering n (build_values b)
answer-report n b h = answered-told count_values n (counts_of b) h

abbrev told : Outcome → Result Counts Refusal
told o = o.answer

pub new-answer : (table graph errors : List ℕ) → (new_of table graph errors).answer ≡ answer_by (new_refusal table graph errors) (build (table_of table))
unfolding new_of written_or wrote_or_9 wrote new_refusal
new-answer table graph errors =
    go (refusal table) (ltb (length graph) (graph_size (get_or table 0 0))) (ltb (length errors) (length (conflicts (build (table_of table)))))
  where
    b : Built
    b = build (table_of table)

    go : (n : ℕ) (short few : Bool)
        → told (elim (eqb n 0) [
          | true ↦ cond short (refused_by GraphRoom graph errors) (cond few (refused_by ErrorRoom graph errors) (wrote (get_or table 0 0) b graph errors))
          | false ↦ refused_by (numbered n) graph errors
        ])
        ≡ answer_by (lowest (n ∷ on short 8 ∷ on few 9 ∷ [])) b
    go zero true few = refl
    go zero false true = refl
    go zero false false = refl
    go (suc n) short few = rw (ne_eqb (suc n) 0 (λ e. omega arith))

-- each of those numbers is a refusal's
new-small : (table graph errors : List ℕ) → new_refusal table graph errors < 17
unfolding new_refusal
new-small table graph errors = go (refusal table) (refusal-small table) (ltb (length graph) (graph_size (get_or table 0 0))) (ltb (length errors) (length (conflicts (build (table_of table)))))
  where
    go : (n : ℕ) → n < 9 → (short few : Bool) → lowest (n ∷ on short 8 ∷ on few 9 ∷ []) < 17
    go zero h true few = omega arith
    go zero h false true = omega arith
    go zero h false false = omega arith
    go (suc n) h short few = omega arith

pub image-small : (image graph errors : List ℕ) → image_refusal image graph errors < 17
unfolding image_refusal
image-small image graph errors = go (eqb (length image % 2) 1 || ltb 65536 (length image))
  where
    go : (no-image : Bool) → lowest (on no-image 13 ∷ new_refusal (words_of image) graph errors ∷ []) < 17
    go true = omega arith
    go false = let e = lowest-one (new_refusal (words_of image) graph errors) in let h = new-small (words_of image) graph errors in omega arith

pub new-report : (table graph errors : List ℕ) → built_report (new_of table graph errors).answer ≡ answering (new_refusal table graph errors) (build_values (build (table_of table)))
new-report table graph errors = ap built_report (new-answer table graph errors) ∙ answer-report (new_refusal table graph errors) (build (table_of table)) (new-small table graph errors)

pub image-answer : (image graph errors : List ℕ) → (image_of image graph errors).answer ≡ answer_by (image_refusal image graph errors) (build (table_of (words_of image)))
unfolding image_of image_refusal
image-answer image graph errors = go (eqb (length image % 2) 1 || ltb 65536 (length image))
  where
    w : List ℕ
    w = words_of image

    go : (no-image : Bool) → (cond no-image (refused_by ImageLength graph errors) (new_of w graph errors)).answer
        ≡ answer_by (lowest (on no-image 13 ∷ new_refusal w graph errors ∷ [])) (build (table_of w))
    go true = refl
    go false = new-answer w graph errors ∙ ap (λ (n : ℕ). answer_by n (build (table_of w))) (sym (lowest-one (new_refusal w graph errors)))

pub image-report : (image graph errors : List ℕ)
    → built_report (image_of image graph errors).answer ≡ answering (image_refusal image graph errors) (build_values (build (table_of (words_of image))))
image-report image graph errors = ap built_report (image-answer image graph errors) ∙ answer-report (image_refusal image graph errors) (build (table_of (words_of image))) (image-small image graph errors)
