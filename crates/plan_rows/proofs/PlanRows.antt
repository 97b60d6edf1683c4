-- The plan's words of a state, by how its edges are tested: one law for each way through the code. Assumes nothing.
use Rattle.std.proofs.Common.{◌≡◌, refl, sym, ap, ◌∙◌, Bool, true, false, cond, List, [], ◌∷◌, ℕ, suc, arith, ltb, ltb-false, length, get_or, Option, Some, None, slice_get}
use Rattle.graph_rules.specs.Graph.{State, Graph, state_of}
use Rattle.classes.specs.Classes.{Class}
use Rattle.edges.specs.Edges.{class_to, targets}
use Rattle.mask_store.specs.Masks.{number_of}
use Rattle.plan_rules.specs.Plan.{base, by_table, table_word, own_code, self_word, edge_words, plan_row}
use Rattle.plan_rows.specs.declared.fork.Fork.{Fork}
use Rattle.plan_rows.specs.Fork.{fork_of}
use Rattle.plan_rows.specs.Rows.{target_word}
use Rattle.plan_rows.proofs.Forks.{fork-own, fork-table, fork-lowest}

-- ---- the words of the edges

module _ (all : List Class) (st : State) (s : ℕ) where
  words-table : (ts : List ℕ) → by_table base ts ≡ true → edge_words base all st s ts ≡ table_word ∷ table_word ∷ []
  unfolding edge_words
  words-table ts h = rw h

  words-each : (ts : List ℕ) → by_table base ts ≡ false → edge_words base all st s ts ≡ target_word all st s (slice_get ts 0) ∷ target_word all st s (slice_get ts 1) ∷ []
  unfolding edge_words by_table
  words-each [] h = refl
  words-each (x ∷ []) h = refl
  words-each (x ∷ y ∷ []) h = refl
  words-each (x ∷ y ∷ z ∷ ts) h = absurd (omega (arith, ltb-false 2 (length (x ∷ y ∷ z ∷ ts)) h))

-- ---- the words of a state

module _ (all : List Class) (g : Graph) (s : ℕ) where
  abbrev st : State
  st = state_of g s

  abbrev ts : List ℕ
  ts = targets (length g.states) st

  module _ {f : Fork} (is-fork : f ≡ fork_of g s) {mask : Option ℕ} (is-mask : mask ≡ cond f.own (Some (number_of all (class_to st s))) None) {own : ℕ} (is-own : own ≡ own_code mask) where
    own-word : own ≡ self_word all st s ts
    unfolding self_word
    own-word = is-own ∙ ap own_code is-mask ∙ go f.own ∙ ap (λ (b : Bool). cond b (suc (number_of all (class_to st s))) 0) (fork-own g s is-fork)
      where
        go : (b : Bool) → own_code (cond b (Some (number_of all (class_to st s))) None) ≡ cond b (suc (number_of all (class_to st s))) 0
        go true = refl
        go false = refl

    row_of : (l : List ℕ) → edge_words base all st s ts ≡ l → own ∷ l ≡ plan_row base all g s
    unfolding plan_row
    row_of l e = let o = own-word in let e' : l ≡ edge_words base all st s ts = sym e in cc

    pub row-table : ltb base.edges f.count ≡ true → own ∷ table_word ∷ table_word ∷ [] ≡ plan_row base all g s
    row-table h = row_of (table_word ∷ table_word ∷ []) (words-table all st s ts (fork-table g s is-fork h))

    pub row-each : ltb base.edges f.count ≡ false → {low high : ℕ} → low ≡ target_word all st s (get_or f.lowest 0 None) → high ≡ target_word all st s (get_or f.lowest 1 None) → own ∷ low ∷ high ∷ [] ≡ plan_row base all g s
    row-each h {low} {high} is-low is-high =
        row_of (low ∷ high ∷ [])
        (words-each all st s ts (fork-table g s is-fork h)
        ∙ ap (λ (x : List (Option ℕ)). target_word all st s (get_or x 0 None) ∷ target_word all st s (get_or x 1 None) ∷ []) (sym (fork-lowest g s is-fork))
        ∙ (λ i. sym is-low i ∷ sym is-high i ∷ []))
