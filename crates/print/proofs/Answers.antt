-- From what a build answers and leaves in the two buffers to what is printed. Assumes nothing.
use mathlib.Core.Path.{◌≡◌, sym, ap, subst, ◌∙◌}
use mathlib.Core.Bool.{◌||◌}
use mathlib.Core.List.{List, ◌++◌, flat_map}
use Prim.Native.Nat.{ℕ, ◌%◌, ◌≤◌, ◌<◌}
use native.Mathlib.Omega.{arith}
use lib.Dec.{eqb, ltb}
use lib.ListN.{length, get_or, drop, length-append}
use Rattle.lists.proofs.Bools.{Is, is, yes-is, no-is}
use Rattle.texts.specs.Text.{bytes, decimal}
use Rattle.texts.proofs.Decimals.{decimal-size}
use Rattle.graph_rules.specs.Table.{table_of}
use Rattle.graph_rules.specs.Graph.{Graph, graph_from}
use Rattle.graph_rules.specs.Build.{Built, build, error_words}
use Rattle.graph_rules.proofs.Taken.{taken-long}
use Rattle.graph.specs.New.{Outcome, conflicts, wrote, words_of, new_of, image_of}
use Rattle.graph.specs.declared.new.Counts.{Counts}
use Rattle.std.specs.Prelude.{Result, Ok, Err}
use Rattle.refusals.specs.Refusals.{number}
use Rattle.refusals.specs.declared.Refusal.{Refusal}
use Rattle.refusals.specs.declared.Refusal.TheVariants.{TableHeader, TableCounts, TableLength, TableStart, TableEmptyFlag, TableTarget, TableMatches, GraphRoom, ErrorRoom, TreeForm, PriorityLimit, GraphForm, ImageLength, PlanOrOffset, Store, ScanEnded, NoRoom}
use Rattle.graph.proofs.Outcomes.{answered}
use Rattle.graph.proofs.ReadingsAlike.{returned-taken}
use Rattle.graph.proofs.AllReached.{returned-back}
use Rattle.display.specs.Display.{displayed}
use Rattle.display.proofs.Sizes.{graph-size}
use Rattle.print.specs.Print.{words_each, most_printed, space, line, printed_build, refused_line, printed_by, printed}
use Rattle.print.specs.Parts.{error_lines, words_text, answer_text, Held, Holds}
use Rattle.print.proofs.Errors.{listed-fit, listed-lines, lines-size}

not_made : {r : Refusal} {c : Counts} → ◌≡◌ {A = Result Counts Refusal} (Err r) (Ok c) → ⊥
not_made e = cc

-- an image that is not refused is not refused by 13
image-made : (image graph errors : List ℕ) (c : Counts) → (image_of image graph errors).answer ≡ Ok c
    → image_of image graph errors ≡ new_of (words_of image) graph errors
unfolding image_of
image-made image graph errors c made = go (is (eqb (length image % 2) 1 || ltb 65536 (length image)))
  where
    go : Is (eqb (length image % 2) 1 || ltb 65536 (length image)) → image_of image graph errors ≡ new_of (words_of image) graph errors
    go (yes-is q) = let m = rw q at made in absurd (not_made m)
    go (no-is q) = rw q

-- ---- a build that was answered with counts, in buffers g₀ and e₀

module _ (table g₀ e₀ : List ℕ) (c : Counts) (made : (new_of table g₀ e₀).answer ≡ Ok c) where
  abbrev b : Built
  b = build (table_of table)

  abbrev left : List ℕ
  left = (new_of table g₀ e₀).errors

  -- the conflict buffer begins with the words of the build's conflicts
  errors-first : left ≡ flat_map error_words b.errors ++ drop (length (conflicts b)) e₀
  unfolding wrote conflicts
  errors-first = ap (λ (x : Outcome). x.errors) (answered table g₀ e₀ c made).outcome

  counted : c.errors ≡ length b.errors
  counted = ap (λ (x : Counts). x.errors) (answered table g₀ e₀ c made).counts

  build-held : Held (new_of table g₀ e₀).graph left c.errors
  build-held =
      record {
        taken = returned-taken table g₀ e₀ c made;
        listed = rw (counted, errors-first) (listed-fit b.errors _);
      }

  build-text : words_text (new_of table g₀ e₀).graph left c.errors ≡ printed_build b
  unfolding words_text printed_build
  build-text =
      ap (λ (g : Graph). line (displayed g) ++ error_lines c.errors left) (returned-back table g₀ e₀ c made)
      ∙ ap (λ (l : List ℕ). line (displayed b.graph) ++ l)
      (ap (λ (k : ℕ). error_lines k left) counted ∙ ap (error_lines (length b.errors)) errors-first ∙ listed-lines b.errors _)

-- ---- what `from_image` answers and leaves

abbrev left-of : Result Counts Refusal → List ℕ → List ℕ → Outcome
left-of answer graph errors = record { answer = answer; graph = graph; errors = errors }

module _ (image graph errors : List ℕ) where
  pub image_holds : (answer : Result Counts Refusal) → left-of answer graph errors ≡ image_of image space space → Holds answer graph errors
  image_holds (Ok c) e =
      let o = image-made image space space c (ap (λ (x : Outcome). x.answer) (sym e)) in
      let q : left-of (Ok c) graph errors ≡ new_of (words_of image) space space = e ∙ o in
      subst (λ (x : Outcome). Held x.graph x.errors c.errors) (sym q)
      (build-held (words_of image) space space c (ap (λ (x : Outcome). x.answer) (sym q)))
  image_holds (Err r) e = tt

  pub image-text : (answer : Result Counts Refusal) → left-of answer graph errors ≡ image_of image space space → answer_text answer graph errors ≡ printed image
  unfolding printed
  image-text (Ok c) e =
      let o = image-made image space space c (ap (λ (x : Outcome). x.answer) (sym e)) in
      let q : left-of (Ok c) graph errors ≡ new_of (words_of image) space space = e ∙ o in
      ap (λ (x : Outcome). words_text x.graph x.errors c.errors) q
      ∙ build-text (words_of image) space space c (ap (λ (x : Outcome). x.answer) (sym q))
      ∙ ap (λ (x : Outcome). printed_by x.answer (build (table_of (words_of image)))) e
  image-text (Err r) e = ap (λ (x : Outcome). printed_by x.answer (build (table_of (words_of image)))) e

-- ---- how long it is at most: 127 states in 32,768 words; six bytes a conflict word; a refusal of 8 bits

pub words_size : (graph errors : List ℕ) → ((i : ℕ) → get_or graph i 0 < 65536) → ((i : ℕ) → get_or errors i 0 < 65536) → length graph ≤ words_each → length errors ≤ words_each
    → (k : ℕ) → Held graph errors k → length (words_text graph errors k) ≤ most_printed
unfolding words_text
words_size graph errors small-graph small-errors h l k held =
    let g = graph-size graph held.taken small-graph in
    let f = taken-long graph held.taken in
    let e = lines-size k errors small-errors held.listed in
    let n = length-append (displayed (graph_from graph)) (bytes "\n") in
    let m = length-append (line (displayed (graph_from graph))) (error_lines k errors) in
    omega arith

refused-size : (n : ℕ) → n < 1000 → length (refused_line n) ≤ most_printed
unfolding refused_line
refused-size n h =
    let d = decimal-size 3 n (omega arith) h in
    let m = length-append (decimal n) (bytes "\n") in
    omega arith

number-small : (r : Refusal) → number r < 1000
number-small TableHeader = omega arith
number-small TableCounts = omega arith
number-small TableLength = omega arith
number-small TableStart = omega arith
number-small TableEmptyFlag = omega arith
number-small TableTarget = omega arith
number-small TableMatches = omega arith
number-small GraphRoom = omega arith
number-small ErrorRoom = omega arith
number-small TreeForm = omega arith
number-small PriorityLimit = omega arith
number-small GraphForm = omega arith
number-small ImageLength = omega arith
number-small PlanOrOffset = omega arith
number-small Store = omega arith
number-small ScanEnded = omega arith
number-small NoRoom = omega arith

pub refusal-size : (r : Refusal) → length (refused_line (number r)) ≤ most_printed
refusal-size r = refused-size (number r) (number-small r)
