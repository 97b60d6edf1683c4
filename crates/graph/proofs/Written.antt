-- The ways of writing a build: refused by 9, or both buffers written; a graph without states. Assumes nothing.
use Rattle.std.specs.Prelude.{Ok}
use mathlib.Core.Path.{◌≡◌, sym, ap, ◌∙◌}
use mathlib.Core.List.{List, [], ◌∷◌, ◌++◌, flat_map}
use Prim.Native.Nat.{ℕ, ◌-◌, ◌*◌, ◌≤◌, ◌<◌}
use native.Mathlib.Omega.{arith}
use borrow.Author.Tests.{lt-ltb, le-ltb}
use lib.Dec.{eqb}
use lib.ListN.{length, get_or, drop, replicate, length-replicate, length-map, replicate-append-replicate}
use lib.Seq.{sets}
use Rattle.lists.specs.Lists.{pieces}
use Rattle.lists.proofs.Buffers.{sets-front}
use Rattle.lists.proofs.Intervals.{count_most}
use Rattle.lists.proofs.Pieces.{pieces-length}
use Rattle.graph_rules.specs.Table.{table_of, refusal, leaf_at}
use Rattle.graph_rules.specs.Graph.{graph_words, graph_buffer, written_on}
use Rattle.graph_rules.specs.Build.{Built, empty_leaves}
use Rattle.graph_rules.proofs.Shape.{few-leaves}
use Rattle.conflicts.specs.Listed.{listed}
use Rattle.refusals.specs.declared.Refusal.TheVariants.{ErrorRoom}
use Rattle.graph.specs.declared.new.Counts.{Counts}
use Rattle.graph.specs.New.{refused_by, conflicts, counts_of, wrote, wrote_or_9}
use Rattle.graph_rules.specs.Layout.{row_words, graph_size, most_leaves}

module _ (n : ℕ) (b : Built) (graph errors : List ℕ) where
  pub short : length errors < length (conflicts b) → refused_by ErrorRoom graph errors ≡ wrote_or_9 n b graph errors
  unfolding wrote_or_9
  short h = rw (lt-ltb (length errors) (length (conflicts b)) h)

  pub enough : length (conflicts b) ≤ length errors → (g e : List ℕ) (c : Counts)
      → g ≡ written_on n b.graph graph → e ≡ listed b.errors errors → c ≡ counts_of b
      → record { answer = Ok c; graph = g; errors = e } ≡ wrote_or_9 n b graph errors
  unfolding wrote_or_9 wrote conflicts
  enough h g e c p q r = rw (le-ltb (length errors) (length (conflicts b)) h) (λ i. record { answer = Ok (r i); graph = p i; errors = q i })

-- ---- a graph without states

pub blank-words : (n : ℕ) (found : List ℕ) (k : ℕ) → k ≡ graph_size n → k ≤ length found
    → sets found 0 (replicate (k - 0) 0) ≡ written_on n (record { states = []; root = 0 }) found
unfolding graph_buffer graph_words flat_map
blank-words n found k e h =
    let a : k - 0 ≡ graph_size n = omega arith in
    let l : length {A = ℕ} (replicate (graph_size n) 0) ≡ graph_size n = length-replicate {A = ℕ} (graph_size n) 0 in
    let s : row_words * (n - 0) ≡ row_words * n = omega arith in
    ap (λ (x : ℕ). sets found 0 (replicate x 0)) a
    ∙ sets-front found (replicate (graph_size n) 0) (omega arith)
    ∙ ap (λ (x : ℕ). replicate (graph_size n) 0 ++ drop x found) l
    ∙ ap (λ (x : List ℕ). x ++ drop (graph_size n) found) (sym (replicate-append-replicate 2 (row_words * n) 0) ∙ ap (λ (x : ℕ). 0 ∷ 0 ∷ replicate x 0) (sym s))

-- ---- the errors of rule 1

pub few-empty : (w : List ℕ) → refusal w ≡ 0 → length (empty_leaves (table_of w)) ≤ most_leaves
unfolding empty_leaves table_of
few-empty w legal =
    let leaves : length (table_of w).leaves ≡ get_or w 2 0 = length-map (pieces 3 (get_or w 2 0) (drop 4 w)) _ ∙ pieces-length 3 (get_or w 2 0) (drop 4 w) in
    let few = few-leaves w legal in
    let all = count_most (λ l. eqb (leaf_at (table_of w) l).empty 1) (length (table_of w).leaves) 0 in
    omega arith
