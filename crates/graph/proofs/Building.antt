-- The ways of the build's call: a refusal, the two endings of rule 1, or the states of rules 2 to 8. Assumes nothing.
use Rattle.std.specs.Prelude.{Option, Some, None, Ok}
use Rattle.refusals.specs.Refusals.{numbered}
use Rattle.refusals.specs.declared.Refusal.TheVariants.{GraphRoom, ErrorRoom}
use mathlib.Core.Path.{◌≡◌, refl, sym, ap, ◌∙◌}
use mathlib.Core.Bool.{Bool, false}
use mathlib.Core.List.{List, [], ◌∷◌, ◌++◌, map, flat_map}
use Prim.Native.Nat.{ℕ, ◌-◌, ◌≤◌, ◌<◌}
use native.Mathlib.Omega.{arith}
use borrow.Author.Tests.{eq-eqb, ne_eqb, lt-ltb, le-ltb}
use lib.ListN.{length, get_or, take, drop, replicate}
use Rattle.graph_rules.specs.Table.{Table, table_of, refusal}
use Rattle.graph_rules.specs.Graph.{written_on}
use Rattle.graph_rules.specs.Build.{Built, no_universal_start, empty_match, error_words, empty_leaves, no_states, reached, ties, build_from, build}
use Rattle.graph_rules.proofs.Counts.{reached-front}
use Rattle.conflicts.specs.Listed.{listed}
use Rattle.graph.specs.New.{refused_by, conflicts, wrote_or_9, written_or, new_of}
use Rattle.graph.proofs.Stages.{first_word, second_word}
use Rattle.graph.proofs.Written.{short, enough}
use Rattle.graph_rules.specs.Layout.{most_states, graph_size}

-- ---- what is built

module _ (t : Table) where
  pub build-none : t.start ≡ None → build t ≡ no_states (no_universal_start ∷ [])
  unfolding build
  build-none e = ap (λ (o : Option ℕ). build_from t o (empty_leaves t)) e

  from : (s : ℕ) → t.start ≡ Some s → build t ≡ build_from t (Some s) (empty_leaves t)
  unfolding build
  from s e = ap (λ (o : Option ℕ). build_from t o (empty_leaves t)) e

  pub build-empty : (s : ℕ) → t.start ≡ Some s → (length (empty_leaves t) ≡ 0 → ⊥) → build t ≡ no_states (map empty_match (empty_leaves t))
  build-empty s e n = from s e ∙ go (empty_leaves t) n
    where
      go : (l : List ℕ) → (length l ≡ 0 → ⊥) → build_from t (Some s) l ≡ no_states (map empty_match l)
      go [] n = absurd (n refl)
      go (x ∷ l) n = refl

  pub build-states : (s : ℕ) → t.start ≡ Some s → length (empty_leaves t) ≡ 0 → build t ≡ build_from t (Some s) []
  build-states s e z = from s e ∙ go (empty_leaves t) z
    where
      go : (l : List ℕ) → length l ≡ 0 → build_from t (Some s) l ≡ build_from t (Some s) []
      go [] z = refl
      go (x ∷ l) z = absurd (omega arith)

-- ---- the call

module _ (table graph errors : List ℕ) where
  pub new-refused : (k : ℕ) → k ≡ refusal table → (k ≡ 0 → ⊥) → refused_by (numbered k) graph errors ≡ new_of table graph errors
  unfolding new_of
  new-refused k e n = rw (ne_eqb (refusal table) 0 (λ q. n (e ∙ q)), new_of) (ap (λ (x : ℕ). refused_by (numbered x) graph errors) e)

  module _ (legal : refusal table ≡ 0) (n : ℕ) (en : n ≡ get_or table 0 0) where
    taken : (b : Built) → build (table_of table) ≡ b → written_or n b graph errors ≡ new_of table graph errors
    unfolding new_of
    taken b e = rw (eq-eqb (refusal table) 0 legal, new_of) (λ i. written_or (en i) (sym e i) graph errors)

    pub new-short : length graph < graph_size n → refused_by GraphRoom graph errors ≡ new_of table graph errors
    unfolding written_or
    new-short h =
        let e : written_or n (build (table_of table)) graph errors ≡ refused_by GraphRoom graph errors = rw (lt-ltb (length graph) (graph_size n) h) in
        sym e ∙ taken (build (table_of table)) refl

    pub new-built : graph_size n ≤ length graph → (b : Built) → build (table_of table) ≡ b → wrote_or_9 n b graph errors ≡ new_of table graph errors
    unfolding written_or
    new-built h b q =
        let e : written_or n b graph errors ≡ wrote_or_9 n b graph errors = rw (le-ltb (length graph) (graph_size n) h) in
        sym e ∙ taken b q

-- ---- rules 2 to 8, by the numbers that the code holds: k errors of `words` words

module _ (table : List ℕ) (start n : ℕ) (en : n ≡ get_or table 0 0) (graph errors : List ℕ) (set : List Bool)
    (es : set ≡ reached (table_of table) start ++ replicate (most_states - get_or table 0 0) false) (words : ℕ)
    (ew : words ≡ length (flat_map error_words (ties (table_of table) (take (get_or table 0 0) set)))) where
  abbrev b : Built
  b = build_from (table_of table) (Some start) []

  part : take (get_or table 0 0) set ≡ reached (table_of table) start
  part = ap (take (get_or table 0 0)) es ∙ reached-front table start (replicate (most_states - get_or table 0 0) false)

  words_are : words ≡ length (conflicts b)
  unfolding conflicts
  words_are = ew ∙ ap (λ (l : List Bool). length (flat_map error_words (ties (table_of table) l))) part

  pub states-short : length errors < words → refused_by ErrorRoom graph errors ≡ wrote_or_9 n b graph errors
  states-short h = short n b graph errors (let e = words_are in omega arith)

  pub states-done : words ≤ length errors → (k s r : ℕ) (g e : List ℕ)
      → k ≡ length (ties (table_of table) (take (get_or table 0 0) set))
      → g ≡ written_on (get_or table 0 0) b.graph graph
      → e ≡ listed (ties (table_of table) (take (get_or table 0 0) set)) errors
      → s ≡ get_or g 0 0 → r ≡ get_or g 1 0
      → record { answer = Ok (record { states = s; root = r; errors = k; words = words }); graph = g; errors = e } ≡ wrote_or_9 n b graph errors
  states-done h k s r g e ek eg ee es' er =
      enough n b graph errors (let x = words_are in omega arith) g e _
      (eg ∙ ap (λ (x : ℕ). written_on x b.graph graph) (sym en))
      (ee ∙ ap (λ (l : List Bool). listed (ties (table_of table) l) errors) part)
      (λ i. record { states = states i; root = root i; errors = number i; words = words_are i })
    where
      states : s ≡ length b.graph.states
      states = es' ∙ first_word (get_or table 0 0) b.graph (drop (graph_size (get_or table 0 0)) graph) g eg

      root : r ≡ b.graph.root
      root = er ∙ second_word (get_or table 0 0) b.graph (drop (graph_size (get_or table 0 0)) graph) g eg

      number : k ≡ length b.errors
      number = ek ∙ ap (λ (l : List Bool). length (ties (table_of table) l)) part
