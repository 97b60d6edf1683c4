-- What stands beyond the definitions: no equal states, readings alike, all reached. Assumes nothing.
use Rattle.std.specs.Prelude.{Option, Some, None}
use mathlib.Core.Path.{◌≡◌, refl, sym, ap, subst, subst₂, ◌∙◌}
use mathlib.Core.Bool.{true}
use mathlib.Core.List.{List, [], ◌∷◌, ◌++◌}
use Prim.Native.Nat.{ℕ, zero, suc, ◌<◌}
use native.Mathlib.Omega.{arith}
use lib.ListN.{length, get_or}
use Rattle.lists.proofs.Distinct.{Apart, apart-differ, apart-nil}
use Rattle.lists.proofs.Elements.{nil-cons}
use Rattle.lists.proofs.Numbering.{number_in}
use Rattle.graph_rules.specs.Table.{Table, table_of, refusal}
use Rattle.graph_rules.specs.Graph.{Graph, blank, state_of, to, accept_of, early_of, same, FromRoot, graph_words, graph_from, graph_fits}
use Rattle.graph_rules.specs.Build.{build, build_from, empty_leaves, unpruned, pruned, merged, reached, leaf_of, edge}
use Rattle.graph_rules.specs.Read.{Bytes, Orderly, Clean, late, onward, walk, start_at, table_walker, graph_walker, read_table, read_graph}
use Rattle.graph_rules.proofs.Merge.{merged-apart, merged-path, merged-reads, rest, same-sound}
use Rattle.graph_rules.proofs.Prune.{pruned-path, pruned-reads, pruned-root}
use Rattle.graph_rules.proofs.Shape.{Shaped, few-leaves, few-states, legal-shaped}
use Rattle.graph_rules.proofs.Alike.{walks-alike}
use Rattle.graph_rules.proofs.Unpruned.{reached-start, un-facts}
use Rattle.graph_rules.proofs.Reached.{kept-reached, un-root, un-root-within}
use Rattle.graph_rules.proofs.Fits.{Fits, build-fits}
use Rattle.graph_rules.proofs.Words.{graph-back, words-taken}
use Rattle.graph_rules.specs.Layout.{end_step, step_count}

-- ---- no equal states

build-apart : (t : Table) → Apart same same-sound (build t).graph.states
unfolding build
build-apart t = go t.start (empty_leaves t)
  where
    go : (o : Option ℕ) (l : List ℕ) → Apart same same-sound (build_from t o l).graph.states
    go None l = apart-nil
    go (Some s) (x ∷ l) = apart-nil
    go (Some s) [] = merged-apart (pruned (unpruned t s))

-- of every table: two states of the finished graph that agree in accept, early, the 256 targets and the end target are one
pub no-equal-states : (t : Table) (i j : ℕ) → i < j → j < length (build t).graph.states
    → (state_of (build t).graph i).accept ≡ (state_of (build t).graph j).accept
    → (state_of (build t).graph i).early ≡ (state_of (build t).graph j).early
    → (state_of (build t).graph i).steps ≡ (state_of (build t).graph j).steps → ⊥
unfolding state_of
no-equal-states t i j h k a e s =
    apart-differ same same-sound blank (build t).graph.states (build-apart t) i j h k (λ x. record { steps = s x; accept = a x; early = e x })

-- ---- what a build is, where no leaf can match empty text

none-built : (t : Table) → t.start ≡ None → (build t).graph ≡ record { states = []; root = 0 }
unfolding build
none-built t e i = (build_from t (e i) (empty_leaves t)).graph

start-built : (t : Table) → empty_leaves t ≡ [] → (s₀ : ℕ) → t.start ≡ Some s₀ → (build t).graph ≡ (merged (pruned (unpruned t s₀))).graph
unfolding build
start-built t q s₀ e i = (build_from t (e i) (q i)).graph

-- a build without errors: no leaf can
no-empties : (t : Table) → (build t).errors ≡ [] → empty_leaves t ≡ []
unfolding build
no-empties t no-error = go t.start refl (empty_leaves t) refl
  where
    go : (o : Option ℕ) → t.start ≡ o → (l : List ℕ) → empty_leaves t ≡ l → empty_leaves t ≡ []
    go None e l q = absurd (nil-cons (subst (λ (o : Option ℕ). (build_from t o (empty_leaves t)).errors ≡ []) e no-error))
    go (Some s) e (x ∷ l) q = absurd (nil-cons (subst₂ (λ (o : Option ℕ) (l : List ℕ). (build_from t o l).errors ≡ []) e q no-error))
    go (Some s) e [] q = q

-- a graph without states reads none
no-states-read : (text : List ℕ) → read_graph (record { states = []; root = 0 }) text ≡ None
unfolding read_graph graph_walker to state_of accept_of early_of
no-states-read [] = refl
no-states-read (b ∷ text) = refl

-- ---- readings alike

module _ (t : Table) (orderly : Orderly t) where
  late-zero : (o : Option ℕ) → late o 0 None ≡ None
  late-zero None = refl
  late-zero (Some l) = refl

  -- a walk that starts at state 0 reads none
  zero-walk : (text : List ℕ) → Bytes text → walk (table_walker t) 0 0 None text ≡ None
  unfolding table_walker
  zero-walk [] bytes = rw (orderly.zero-steps end_step (omega arith)) (late-zero (leaf_of t 0))
  zero-walk (b ∷ text) bytes =
      let h : b < step_count = let h' : b < 256 = bytes 0 in omega arith in
      rw (orderly.zero-steps b h) (late-zero (leaf_of t 0))

  table-walk : (s₀ : ℕ) → t.start ≡ Some s₀ → (text : List ℕ) → Bytes text → read_table t text ≡ walk (table_walker t) s₀ 0 None text
  unfolding read_table
  table-walk s₀ st text bytes = ap (λ (o : Option ℕ). onward None (λ s. walk (table_walker t) s 0 None text) (start_at o)) st ∙ go s₀
    where
      go : (s : ℕ) → onward None (λ s. walk (table_walker t) s 0 None text) (edge s) ≡ walk (table_walker t) s 0 None text
      go zero = sym (zero-walk text bytes)
      go (suc s) = refl

  module _ (sh : Shaped t) where
    unpruned-reads : (s₀ : ℕ) → t.start ≡ Some s₀ → (text : List ℕ) → Bytes text → read_table t text ≡ read_graph (unpruned t s₀) text
    unfolding read_graph
    unpruned-reads s₀ st text bytes =
        let (i, n) = number_in 0 (reached t s₀) s₀ (reached-start t sh s₀ st) in
        table-walk s₀ st text bytes
        ∙ walks-alike t (unpruned t s₀) _ (un-facts t sh s₀ st orderly) text bytes s₀ i n
        ∙ ap (λ (x : ℕ). walk (graph_walker (unpruned t s₀)) x 0 None text) (sym (un-root t sh s₀ st i n))

    module _ (no-empty : empty_leaves t ≡ []) where
      build-reads : (text : List ℕ) → Bytes text → read_table t text ≡ read_graph (build t).graph text
      unfolding read_table
      build-reads text bytes = go t.start refl
        where
          go : (o : Option ℕ) → t.start ≡ o → read_table t text ≡ read_graph (build t).graph text
          go None st =
              ap (λ (o : Option ℕ). onward None (λ s. walk (table_walker t) s 0 None text) (start_at o)) st
              ∙ sym (no-states-read text)
              ∙ ap (λ (g : Graph). read_graph g text) (sym (none-built t st))
          go (Some s₀) st =
              let w = un-root-within t sh s₀ st in
              unpruned-reads s₀ st text bytes
              ∙ sym (pruned-reads (unpruned t s₀) w text)
              ∙ sym (merged-reads (pruned (unpruned t s₀)) (pruned-root (unpruned t s₀) w) text)
              ∙ ap (λ (g : Graph). read_graph g text) (sym (start-built t no-empty s₀ st))

      build-reached : (i : ℕ) → i < length (build t).graph.states → FromRoot (build t).graph i
      build-reached = go t.start refl
        where
          go : (o : Option ℕ) → t.start ≡ o → (i : ℕ) → i < length (build t).graph.states → FromRoot (build t).graph i
          go None st = λ i h. let none_below : i < 0 = subst (λ (g : Graph). i < length g.states) (none-built t st) h in absurd (omega arith)
          go (Some s₀) st =
              let all = merged-path (pruned (unpruned t s₀)) (pruned-path (unpruned t s₀) (kept-reached t sh s₀ st orderly)) in
              subst (λ (g : Graph). (i : ℕ) → i < length g.states → FromRoot g i) (sym (start-built t no-empty s₀ st)) all

-- Of every legal table that is clean but for ties, and every text: the table and the finished graph read alike. A state whose leaves tie has no
-- leaf in either.
pub tied-alike : (words : List ℕ) → refusal words ≡ 0 → Orderly (table_of words) → empty_leaves (table_of words) ≡ [] → (text : List ℕ) → Bytes text
    → read_table (table_of words) text ≡ read_graph (build (table_of words)).graph text
tied-alike words legal orderly no-empty text bytes = build-reads (table_of words) orderly (legal-shaped words legal) no-empty text bytes

-- of such a table: every state of the finished graph is reached from its root
pub tied-reached : (words : List ℕ) → refusal words ≡ 0 → Orderly (table_of words) → empty_leaves (table_of words) ≡ []
    → (i : ℕ) → i < length (build (table_of words)).graph.states → FromRoot (build (table_of words)).graph i
tied-reached words legal orderly no-empty i h = build-reached (table_of words) orderly (legal-shaped words legal) no-empty i h

-- a clean table is such a table
pub clean-no-empty : (t : Table) → Clean t → empty_leaves t ≡ []
clean-no-empty t clean = no-empties t clean.no-error

-- ---- the same, of words

module _ (words : List ℕ) (legal : refusal words ≡ 0) where
  abbrev pub built : Graph
  built = (build (table_of words)).graph

  fits : Fits (get_or words 2 0) (get_or words 0 0) built
  fits = build-fits words legal

  -- the build's words, whatever follows them, are taken by refusal 12 and are read back as the graph
  pub built-taken : (rest : List ℕ) → graph_fits (graph_words built ++ rest) ≡ true
  built-taken rest = words-taken (get_or words 2 0) (get_or words 0 0) (few-leaves words legal) (few-states words legal) built fits rest

  pub built-back : (rest : List ℕ) → graph_from (graph_words built ++ rest) ≡ built
  built-back rest = graph-back (get_or words 2 0) (get_or words 0 0) (few-leaves words legal) (few-states words legal) built fits rest

  pub words-alike : Orderly (table_of words) → empty_leaves (table_of words) ≡ [] → (rest text : List ℕ) → Bytes text
      → read_table (table_of words) text ≡ read_graph (graph_from (graph_words built ++ rest)) text
  words-alike orderly no-empty rest text bytes =
      tied-alike words legal orderly no-empty text bytes ∙ ap (λ (g : Graph). read_graph g text) (sym (built-back rest))
