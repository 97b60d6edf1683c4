-- A build that is answered with counts: the table is legal, both buffers were long enough, and what stands in them is the build's. Assumes nothing.
use mathlib.Core.Path.{◌≡◌, sym, ap, ◌∙◌}
use mathlib.Core.List.{List, ◌++◌, append_assoc}
use Prim.Native.Nat.{ℕ, ◌-◌, ◌*◌}
use borrow.Author.Tests.{eqb-true}
use lib.Dec.{eqb, ltb}
use lib.ListN.{length, get_or, drop, replicate}
use Rattle.lists.proofs.Bools.{Is, is, yes-is, no-is}
use Rattle.graph_rules.specs.Table.{table_of, refusal}
use Rattle.graph_rules.specs.Graph.{graph_words, graph_buffer}
use Rattle.graph_rules.specs.Build.{Built, build}
use Rattle.std.specs.Prelude.{Result, Ok, Err}
use Rattle.refusals.specs.Refusals.{numbered}
use Rattle.refusals.specs.declared.Refusal.{Refusal}
use Rattle.graph.specs.declared.new.Counts.{Counts}
use Rattle.graph.specs.New.{Outcome, refused_by, conflicts, counts_of, wrote, wrote_or_9, written_or, new_of}
use Rattle.graph_rules.specs.Layout.{row_words, graph_size}

-- what a call that was not refused has done
pub record Answered (table graph errors : List ℕ) (c : Counts) : Type 0 where
  pub legal : refusal table ≡ 0
  pub outcome : new_of table graph errors ≡ wrote (get_or table 0 0) (build (table_of table)) graph errors
  pub counts : c ≡ counts_of (build (table_of table))

not_made : {c : Counts} {r : Refusal} → ◌≡◌ {A = Result Counts Refusal} (Err r) (Ok c) → ⊥
not_made e = cc

same-counts : {a b : Counts} → ◌≡◌ {A = Result Counts Refusal} (Ok a) (Ok b) → b ≡ a
same-counts e = cc

module _ (table graph errors : List ℕ) (c : Counts) (made : (new_of table graph errors).answer ≡ Ok c) where
  abbrev b : Built
  b = build (table_of table)

  abbrev n : ℕ
  n = get_or table 0 0

  written : (written_or n b graph errors).answer ≡ Ok c → written_or n b graph errors ≡ wrote n b graph errors
  unfolding written_or wrote_or_9
  written e = go (is (ltb (length graph) (graph_size n))) (is (ltb (length errors) (length (conflicts b))))
    where
      go : Is (ltb (length graph) (graph_size n)) → Is (ltb (length errors) (length (conflicts b))) → written_or n b graph errors ≡ wrote n b graph errors
      go (yes-is p) q = absurd (not_made (rw p at e))
      go (no-is p) (yes-is q) = absurd (not_made (rw q at (rw p at e)))
      go (no-is p) (no-is q) = rw (p, q)

  is-legal : Is (eqb (refusal table) 0) → Answered table graph errors c
  unfolding new_of wrote
  is-legal (yes-is q) =
      let o : new_of table graph errors ≡ written_or n b graph errors = rw (q, new_of) in
      let w : written_or n b graph errors ≡ wrote n b graph errors = written (ap (λ (x : Outcome). x.answer) (sym o) ∙ made) in
      record {
        legal = eqb-true (refusal table) 0 q;
        outcome = o ∙ w;
        counts = same-counts (ap (λ (x : Outcome). x.answer) (sym (o ∙ w)) ∙ made);
      }
  is-legal (no-is q) = absurd (not_made (ap (λ (x : Outcome). x.answer) (sym o) ∙ made))
    where
      o : new_of table graph errors ≡ refused_by (numbered (refusal table)) graph errors
      o = rw (q, new_of)

  pub answered : Answered table graph errors c
  answered = is-legal (is (eqb (refusal table) 0))

  -- the graph buffer begins with the build's words
  pub words-first : (new_of table graph errors).graph ≡ graph_words b.graph ++ (replicate (row_words * (n - length b.graph.states)) 0 ++ drop (graph_size n) graph)
  unfolding graph_buffer wrote
  words-first =
      ap (λ (x : Outcome). x.graph) answered.outcome
      ∙ append_assoc (graph_words b.graph) (replicate (row_words * (n - length b.graph.states)) 0) (drop (graph_size n) graph)
