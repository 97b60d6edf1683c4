-- The planned run of a text is its reading by the graph. The run and the walk go byte by byte; in a state that the byte leads back to, the run
-- passes it and the walk enters the state again, which records what counts. Assumes nothing.
use Rattle.std.specs.Prelude.{Option, Some, None}
use mathlib.Core.Path.{◌≡◌, refl, sym, ap, subst, ◌∙◌}
use mathlib.Core.Bool.{true, false, cond, false≢true}
use mathlib.Core.List.{List, [], ◌∷◌, ◌++◌, map, flat_map}
use mathlib.Core.Logic.{◌⊎◌, inl, inr}
use Prim.Native.Nat.{ℕ, suc, ◌-◌, ◌*◌, ◌≤◌, ◌<◌}
use native.Mathlib.Omega.{arith}
use borrow.Author.Tests.{ltb-false}
use lib.Dec.{eqb}
use lib.ListN.{length, get_or, take, drop, replicate, length-append, length-map, length-replicate, take-append-drop}
use Rattle.lists.specs.Lists.{below, all_l, eq_option, eq_list, pieces}
use Rattle.lists.proofs.Elements.{length-tab, get_or-tab0, map_at, all-at, eqb-sound, option-sound, list-sound}
use Rattle.lists.proofs.Pieces.{pieces-length}
use Rattle.graph_rules.specs.Layout.{end_step}
use Rattle.graph_rules.specs.Graph.{State, Graph, blank, state_of, to, accept_of, early_of}
use Rattle.graph_rules.specs.Read.{Bytes, Reading, mark, late, onward, walk, graph_walker, read_graph}
use Rattle.classes.specs.Classes.{Class}
use Rattle.mask_store.specs.declared.MaskStore.{MaskStore}
use Rattle.mask_store.specs.Layout.{most_masks}
use Rattle.mask_store.specs.Masks.{held_with, takes}
use Rattle.mask_store.proofs.Several.{takes-few}
use Rattle.lists.proofs.Bools.{Is, yes-is, no-is, is, and_both}
use Rattle.edges.specs.Edges.{class_to, targets}
use Rattle.plan_rules.specs.Plan.{Settings, Sane, base, by_table, way_to, way_word, edge_words, plan_row, plan_words, plan_of, plan_size, needs, table_word}
use Rattle.plan_rules.specs.Run.{self_of, self_takes, led_by, along, run_from, rows_of, row_held, run, is_plan}
use Rattle.lists.proofs.Flattened.{pieces-flat, length-flat}
use Rattle.plan_rules.proofs.SelfRun.{walk-again}
use Rattle.plan_rules.proofs.Edges.{row-self, row-led}

-- the calls' settings can be read
pub base-sane : Sane base
base-sane = record { enough = omega arith; some_word = omega arith }

-- ---- the rows of a plan

module _ (set : Settings) (sane : Sane set) (all : List Class) (g : Graph) where
  -- where no table is used, each edge has its word
  edges_fit : (ts : List ℕ) → by_table set ts ≡ false → length ts ≤ set.words
  unfolding by_table
  edges_fit ts q = let h : length ts ≤ set.edges = ltb-false _ _ q in let k : set.edges ≤ set.words = sane.enough in omega arith

  edges-length : (st : State) (s : ℕ) (ts : List ℕ) → length (edge_words set all st s ts) ≡ set.words
  unfolding edge_words
  edges-length st s ts = go (is (by_table set ts))
    where
      word : ℕ → ℕ
      word u = way_word all (way_to set st s u) (class_to st u)

      go : Is (by_table set ts) → length (cond (by_table set ts) (replicate set.words table_word) (map word ts ++ replicate (set.words - length ts) 0)) ≡ set.words
      go (yes-is q) = rw q (length-replicate set.words table_word)
      go (no-is q) =
          let h : length ts ≤ set.words = edges_fit ts q in
          rw q (omega (arith, length-append (map word ts) (replicate (set.words - length ts) 0), length-map ts word, length-replicate {A = ℕ} (set.words - length ts) 0))

  pub row-length : (s : ℕ) → length (plan_row set all g s) ≡ suc set.words
  unfolding plan_row
  row-length s = ap suc (edges-length (state_of g s) s _)

  pub length-plan_words : length (plan_words set all g) ≡ plan_size set g
  unfolding plan_words
  length-plan_words =
      length-flat (suc set.words) (plan_row set all g) (below (length g.states)) row-length
      ∙ ap (λ (n : ℕ). n * suc set.words) (length-tab 0 (length g.states) (λ i. i))

  -- the rows of words that begin with the plan
  pub rows_are : (rest : List ℕ) → rows_of set g (plan_words set all g ++ rest) ≡ map (plan_row set all g) (below (length g.states))
  unfolding rows_of plan_words
  rows_are rest =
      ap (λ (m : ℕ). pieces (suc set.words) m (flat_map (plan_row set all g) (below (length g.states)) ++ rest)) (sym (length-tab 0 (length g.states) (λ i. i)))
      ∙ pieces-flat (suc set.words) (plan_row set all g) (below (length g.states)) rest row-length

  pub row_at : (s : ℕ) → s < length g.states → get_or (map (plan_row set all g) (below (length g.states))) s [] ≡ plan_row set all g s
  row_at s h =
      let w : length (below (length g.states)) ≡ length g.states = length-tab 0 (length g.states) (λ i. i) in
      map_at (plan_row set all g) (below (length g.states)) s 0 [] (omega arith)
      ∙ ap (plan_row set all g) (get_or-tab0 (length g.states) (λ i. i) s 0 h)

-- ---- run and walk, from any state

module _ (set : Settings) (sane : Sane set) (g : Graph) (store : MaskStore) (cs : List Class) (few : length (held_with store cs) ≤ most_masks)
    (closed : (s c u : ℕ) → to g s c ≡ Some u → u < length g.states) (rows : List (List ℕ))
    (row_is : (s : ℕ) → s < length g.states → get_or rows s [] ≡ plan_row set (held_with store cs) g s)
    (held : (s : ℕ) → s < length g.states → row_held store.count (plan_row set (held_with store cs) g s) ≡ true) where
  self-byte : (s b : ℕ) → s < length g.states → b < 256 → self_takes store.tables (self_of (get_or rows s [])) b ≡ eq_option (Some s) (to g s b)
  self-byte s b h byte =
      ap (λ (r : List ℕ). self_takes store.tables (self_of r) b) (row_is s h) ∙ row-self set sane g store cs few closed s b byte (held s h)

  led-byte : (s b : ℕ) → s < length g.states → b < 256 → (to g s b ≡ Some s → ⊥) → led_by g (get_or rows s []) store.tables s b ≡ to g s b
  led-byte s b h byte ne =
      ap (λ (r : List ℕ). led_by g r store.tables s b) (row_is s h) ∙ row-led set sane g store cs few closed s b byte (held s h) ne

  pub run-walk : (text : List ℕ) → Bytes text → (s k : ℕ) (r : Reading) → s < length g.states
      → run_from g rows store.tables s k r text ≡ walk (graph_walker g) s k r text
  unfolding graph_walker
  run-walk [] bytes s k r h = refl
  run-walk (b ∷ text) bytes s k r h = go (is (self_takes store.tables (self_of (get_or rows s [])) b)) (run-walk text (λ i. bytes (suc i)))
    where
      byte : b < 256
      byte = bytes 0

      q : Reading
      q = mark (early_of g s) (accept_of g s) k r

      on : (o : Option ℕ) → to g s b ≡ o → ((s k : ℕ) (r : Reading) → s < length g.states → run_from g rows store.tables s k r text ≡ walk (graph_walker g) s k r text)
          → onward q (λ u. run_from g rows store.tables u (suc k) q text) o ≡ onward q (λ u. walk (graph_walker g) u (suc k) q text) o
      on None e f = refl
      on (Some u) e f = f u (suc k) q (closed s b u e)

      go : Is (self_takes store.tables (self_of (get_or rows s [])) b)
          → ((s k : ℕ) (r : Reading) → s < length g.states → run_from g rows store.tables s k r text ≡ walk (graph_walker g) s k r text)
          → run_from g rows store.tables s k r (b ∷ text) ≡ walk (graph_walker g) s k r (b ∷ text)
      go (yes-is t) f =
          let e : to g s b ≡ Some s = sym (option-sound.eq (Some s) (to g s b) (sym (self-byte s b h byte) ∙ t)) in
          let p : run_from g rows store.tables s k r (b ∷ text) ≡ run_from g rows store.tables s (suc k) r text = rw (t, run_from) in
          p ∙ f s (suc k) r h ∙ sym (walk-again g s k r text) ∙ ap (onward q (λ u. walk (graph_walker g) u (suc k) q text)) (sym e)
      go (no-is t) f =
          let ne : to g s b ≡ Some s → ⊥ = λ e. false≢true (sym t ∙ self-byte s b h byte ∙ ap (eq_option (Some s)) e ∙ option-sound.self (Some s)) in
          let p : run_from g rows store.tables s k r (b ∷ text) ≡ onward q (λ u. run_from g rows store.tables u (suc k) q text) (led_by g (get_or rows s []) store.tables s b) = rw (t, run_from) in
          p ∙ ap (onward q (λ u. run_from g rows store.tables u (suc k) q text)) (led-byte s b h byte ne) ∙ on (to g s b) refl f

-- ---- a graph without states

module _ (g : Graph) (empty : length g.states ≡ 0) where
  all-blank : (s : ℕ) → state_of g s ≡ blank
  unfolding state_of
  all-blank s = lib.ListN.get_or-eq_default g.states blank (omega arith)

  no-mark : (s k : ℕ) → mark (early_of g s) (accept_of g s) k None ≡ None
  unfolding early_of accept_of
  no-mark s k = ap (λ (st : State). mark st.early st.accept k None) (all-blank s)

  no_edge : (s c : ℕ) → to g s c ≡ None
  unfolding to
  no_edge s c = ap (λ (st : State). get_or st.steps c None) (all-blank s)

  pub empty-reads : (text : List ℕ) → read_graph g text ≡ None
  unfolding read_graph graph_walker
  empty-reads [] = ap (λ (q : Reading). onward q (λ u. late (accept_of g u) 1 q) (to g g.root end_step)) (no-mark g.root 0) ∙ ap (onward None (λ u. late (accept_of g u) 1 None)) (no_edge g.root end_step)
  empty-reads (b ∷ text) =
      ap (λ (q : Reading). onward q (λ u. walk (graph_walker g) u 1 q text) (to g g.root b)) (no-mark g.root 0)
      ∙ ap (onward None (λ u. walk (graph_walker g) u 1 None text)) (no_edge g.root b)

  no-along : (tables : List ℕ) (st : State) (ts : List ℕ) (b : ℕ) → along tables st ts [] b ≡ None
  no-along tables st [] b = refl
  no-along tables st (u ∷ ts) b = refl

  no-led : (tables : List ℕ) (s b : ℕ) → led_by g [] tables s b ≡ None
  unfolding led_by
  no-led tables s b = no-along tables (state_of g s) (targets (length g.states) (state_of g s)) b

  pub empty_runs : (tables text : List ℕ) → run_from g [] tables g.root 0 None text ≡ None
  empty_runs tables [] = ap (λ (q : Reading). onward q (λ u. late (accept_of g u) 1 q) (to g g.root end_step)) (no-mark g.root 0) ∙ ap (onward None (λ u. late (accept_of g u) 1 None)) (no_edge g.root end_step)
  empty_runs tables (b ∷ text) =
      ap (λ (q : Reading). onward q (λ u. run_from g [] tables u 1 q text) (led_by g [] tables g.root b)) (no-mark g.root 0)
      ∙ ap (onward None (λ u. run_from g [] tables u 1 None text)) (no-led tables g.root b)

-- ---- a run with the plan, on a store that holds its masks

module _ (set : Settings) (sane : Sane set) (g : Graph) (store : MaskStore) where
  -- the rows of words that are the plan
  pub rows-of : (words : List ℕ) → is_plan set g words store ≡ true → rows_of set g words ≡ map (plan_row set (held_with store (needs set g)) g) (below (length g.states))
  unfolding is_plan plan_of
  rows-of words h =
      let e : take (plan_size set g) words ≡ plan_words set (held_with store (needs set g)) g = (list-sound eqb eqb-sound).eq _ _ (and_both (eq_list eqb (take (plan_size set g) words) _) _ h).0 in
      ap (rows_of set g) (sym (take-append-drop (plan_size set g) words) ∙ ap (λ (l : List ℕ). l ++ drop (plan_size set g) words) e)
      ∙ rows_are set sane (held_with store (needs set g)) g (drop (plan_size set g) words)

  rows-held : (words : List ℕ) → is_plan set g words store ≡ true → all_l (row_held store.count) (rows_of set g words) ≡ true
  unfolding is_plan plan_of
  rows-held words h = (and_both (eq_list eqb (take (plan_size set g) words) (plan_words set (held_with store (needs set g)) g)) _ h).1

  -- and every mask that a state's row names is held
  pub row-held : (words : List ℕ) → is_plan set g words store ≡ true → (s : ℕ) → s < length g.states → row_held store.count (plan_row set (held_with store (needs set g)) g s) ≡ true
  unfolding rows_of
  row-held words h s l =
      let w : length (rows_of set g words) ≡ length g.states = pieces-length (suc set.words) (length g.states) words in
      ap (row_held store.count) (sym (ap (λ (r : List (List ℕ)). get_or r s []) (rows-of words h) ∙ row_at set sane (held_with store (needs set g)) g s l))
      ∙ all-at (row_held store.count) (rows_of set g words) s [] (rows-held words h) (subst (λ (m : ℕ). s < m) (sym w) l)

  module _ (closed : (s c u : ℕ) → to g s c ≡ Some u → u < length g.states)
      (root : (g.root < length g.states) ⊎ (length g.states ≡ 0)) where
    pub plan-runs : takes store (needs set g) ≡ true → (words : List ℕ) → is_plan set g words store ≡ true → (text : List ℕ) → Bytes text
        → run set g words store text ≡ read_graph g text
    unfolding run read_graph rows_of
    plan-runs t words h text bytes = go root
      where
        all : List Class
        all = held_with store (needs set g)

        go : (g.root < length g.states) ⊎ (length g.states ≡ 0) → run_from g (rows_of set g words) store.tables g.root 0 None text ≡ read_graph g text
        go (inl l) =
            run-walk set sane g store (needs set g) (takes-few store (needs set g) t) closed (rows_of set g words)
            (λ s b. ap (λ (r : List (List ℕ)). get_or r s []) (rows-of words h) ∙ row_at set sane all g s b)
            (row-held words h) text bytes g.root 0 None l
        go (inr e) =
            ap (λ (m : ℕ). run_from g (pieces (suc set.words) m words) store.tables g.root 0 None text) e
            ∙ empty_runs g e store.tables text ∙ sym (empty-reads g e text)
