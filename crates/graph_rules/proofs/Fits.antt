-- A graph fits its words: rows of a target for each step, each below the count; leaves below m; at most n states; a root that is a state, if there is one. Each of
-- the rules 5 to 8 keeps it so, and the finished graph of a legal table fits. Assumes nothing.
use Rattle.std.specs.Prelude.{Option, Some, None, unwrap_or}
use mathlib.Core.Path.{◌≡◌, refl, sym, ap, ◌∙◌}
use mathlib.Core.Bool.{Bool}
use mathlib.Core.List.{List, [], ◌∷◌, map}
use mathlib.Core.Logic.{◌⊎◌, inl, inr, ⊎_elim}
use Prim.Native.Nat.{ℕ, ◌≤◌, ◌<◌, zero-le}
use native.Mathlib.Nat.{not-suc-le-zero}
use native.Mathlib.Omega.{arith}
use lib.ListN.{length, get_or, length-map, get_or-eq_default}
use Rattle.lists.specs.Sets.{In}
use Rattle.lists.specs.Lists.{select, distinct, place, number_from}
use Rattle.lists.proofs.Bools.{none-some}
use Rattle.lists.proofs.Distinct.{distinct_from, distinct-length}
use Rattle.lists.proofs.Numbers.{number-length}
use Rattle.lists.proofs.Selecting.{select-from, select-le}
use Rattle.graph_rules.specs.Table.{Table, table_of, refusal, size, row_of}
use Rattle.graph_rules.specs.Graph.{State, Graph, blank, state_of, to, accept_of, early_of, same}
use Rattle.graph_rules.specs.Build.{reached, renamed, relabel, restrict, kept, pruned, first_state, whole_graph, with_early, with_cleared, cleared, unpruned, merge_round, merged, edge, empty_leaves, build_from, build}
use Rattle.graph_rules.proofs.Rename.{Named, led, relabel-state, relabel-to}
use Rattle.graph_rules.proofs.Merge.{merged-keep, names, placed, round-length, round-root, same-sound}
use Rattle.graph_rules.proofs.Prune.{kept-length, kept-root, restrict-length, restrict-placed, restrict-root}
use Rattle.graph_rules.proofs.Marks.{early-state, early-to, early-accept, early-length, early-byte, cleared-length, cleared-state, cleared-to, cleared-accept}
use Rattle.graph_rules.proofs.Counts.{size_is}
use Rattle.graph_rules.proofs.Shape.{Shaped, legal-leaf, legal-shaped}
use Rattle.graph_rules.proofs.Unpruned.{lengths, reached-below, reached-start, whole_length, whole-state}
use Rattle.graph_rules.specs.Layout.{step_count}

pub record FitsState (m : ℕ) (s : State) : Type 0 where
  pub width : length s.steps ≡ step_count
  pub accept-below : (l : ℕ) → s.accept ≡ Some l → l < m
  pub early-below : (l : ℕ) → s.early ≡ Some l → l < m

abbrev pub AllFit : ℕ → Graph → Type 0
AllFit m g = (i : ℕ) → i < length g.states → FitsState m (state_of g i)

-- of n states, r is one, or there are none and r is 0
abbrev pub Root : ℕ → ℕ → Type 0
Root n r = (r < n) ⊎ ((n ≡ 0) × (r ≡ 0))

pub record Fits (m n : ℕ) (g : Graph) : Type 0 where
  pub states : AllFit m g
  pub closed : (s c u : ℕ) → to g s c ≡ Some u → u < length g.states
  pub few : length g.states ≤ n
  pub root : Root (length g.states) g.root

module _ (m n : ℕ) (g : Graph) (f : Fits m n g) where
  -- its own number of states is enough
  tight : Fits m (length g.states) g
  tight = record { states = f.states; closed = f.closed; few = omega arith; root = f.root }

  -- ---- rule 5

  pub early-fits : Fits m n (with_early g)
  unfolding accept_of early_of with_early
  early-fits =
      record {
        states = λ s h.
            let h' : s < length g.states = rw (early-length g) at h in
            record {
              width = ap (λ (x : State). length x.steps) (early-state g s) ∙ (f.states s h').width;
              accept-below = λ l e. (f.states s h').accept-below l (sym (early-accept g s) ∙ e);
              early-below = λ l e.
                  let wide = (f.states s h').width in
                  let (u, p, q) = early-byte g s l 0 e (omega arith) (omega arith) in
                  (f.states u (f.closed s 0 u p)).accept-below l q;
            };
        closed = λ s c u e. rw (early-length g) (f.closed s c u (sym (early-to g s c) ∙ e));
        few = rw (early-length g) f.few;
        root = rw (early-length g) f.root;
      }

  -- ---- rule 6

  pub cleared-fits : Fits m n (with_cleared g)
  unfolding accept_of early_of with_cleared cleared
  cleared-fits =
      record {
        states = λ s h.
            let h' : s < length g.states = rw (cleared-length g) at h in
            record {
              width = ap (λ (x : State). length x.steps) (cleared-state g s h') ∙ (f.states s h').width;
              accept-below = λ l e.
                  ⊎_elim (λ a. absurd (none-some (sym a.1 ∙ e))) (λ a. (f.states s h').accept-below l (sym a ∙ e)) (cleared-accept g s h');
              early-below = λ l e. (f.states s h').early-below l (ap (λ (x : State). x.early) (sym (cleared-state g s h')) ∙ e);
            };
        closed = λ s c u e. rw (cleared-length g) (f.closed s c u (sym (cleared-to g s c) ∙ e));
        few = rw (cleared-length g) f.few;
        root = rw (cleared-length g) f.root;
      }

-- ---- states that stay, known by new names: rules 2, 7 and 8

pub relabel-fits : (m n : ℕ) (g : Graph) → AllFit m g → (names : List (Option ℕ)) (rest : List State) (root : ℕ) → length rest ≤ n
    → ((i : ℕ) → i < length rest → (s : ℕ) × (s < length g.states) × (get_or rest i blank ≡ state_of g s))
    → ((s i : ℕ) → Named names s i → i < length rest) → Root (length rest) (unwrap_or (get_or names root None) 0)
    → Fits m n (relabel names rest root)
unfolding renamed relabel
relabel-fits m n g f names rest root less from below rooted =
    record {
      states = λ i h.
          let (s, b, e) = from i (rw size at h) in
          let old : FitsState m (get_or rest i blank) = rw e (f s b) in
          rw (relabel-state names rest root i)
          (record { width = length-map (get_or rest i blank).steps _ ∙ old.width; accept-below = old.accept-below; early-below = old.early-below });
      closed = λ s c u e. rw size (led-below (get_or (get_or rest s blank).steps c None) u (sym (relabel-to names rest root s c) ∙ e));
      few = rw size less;
      root = rw size rooted;
    }
  where
    size : length (map (renamed names) rest) ≡ length rest
    size = length-map rest (renamed names)

    led-below : (o : Option ℕ) (u : ℕ) → led names o ≡ Some u → u < length rest
    led-below None u e = absurd (none-some e)
    led-below (Some v) u e = below v u e

-- of a graph without states, nothing stays and nothing is named
none_left : (names : List (Option ℕ)) (rest : List State) (root : ℕ) → length names ≤ 0 → length rest ≤ 0
    → Root (length rest) (unwrap_or (get_or names root None) 0)
none_left names rest root a b = inr (omega arith, rw (get_or-eq_default names None {n = root} (omega arith)))

module _ (g : Graph) (keep : List Bool) (len : length keep ≡ length g.states) (root_kept : g.root < length g.states → In keep g.root) where
  pub restrict-rooted : Root (length g.states) g.root → Root (length (select keep g.states)) (unwrap_or (get_or (number_from 0 keep) g.root None) 0)
  unfolding restrict relabel
  restrict-rooted =
      ⊎_elim
      (λ h. inl (rw (restrict-length g keep len) at (restrict-root g keep len (root_kept h))))
      (λ h.
      let a = number-length 0 keep in
      let c = select-le keep g.states in
      let z = h.0 in
      none_left (number_from 0 keep) (select keep g.states) g.root (omega arith) (omega arith))

  restrict-fits : (m n : ℕ) → AllFit m g → length g.states ≤ n → Root (length g.states) g.root → Fits m n (restrict keep g)
  unfolding restrict state_of
  restrict-fits m n f few root =
      let c = select-le keep g.states in
      relabel-fits m n g f (number_from 0 keep) (select keep g.states) g.root (omega arith) (select-from blank keep g.states)
      (λ s i e. (restrict-placed g keep len s i e).0) (restrict-rooted root)

-- ---- rule 7

pub pruned-fits : (m n : ℕ) (g : Graph) → Fits m n g → Fits m n (pruned g)
unfolding pruned
pruned-fits m n g f = restrict-fits g (kept g) (kept-length g) (kept-root g) m n f.states f.few f.root

pub pruned-few : (m n : ℕ) (g : Graph) → Fits m n g → length (pruned g).states ≤ length g.states
pruned-few m n g f = (pruned-fits m (length g.states) g (tight m n g f)).few

-- ---- rule 8

few-distinct : (g : Graph) → length (distinct same g.states) ≤ length g.states
few-distinct g = distinct-length same same-sound g.states

pub round-rooted : (g : Graph) → Root (length g.states) g.root → Root (length (distinct same g.states)) (unwrap_or (get_or (names g) g.root None) 0)
unfolding merge_round relabel
round-rooted g =
    ⊎_elim
    (λ h. inl (rw (round-length g) at (round-root g h)))
    (λ h.
    let a = few-distinct g in
    let b : length (names g) ≡ length g.states = length-map g.states (λ s. place same s (distinct same g.states)) in
    let z = h.0 in
    none_left (names g) (distinct same g.states) g.root (omega arith) (omega arith))

pub round-fits : (m n : ℕ) (g : Graph) → Fits m n g → Fits m n (merge_round g)
unfolding merge_round state_of
round-fits m n g f =
    let few = f.few in
    let a = few-distinct g in
    relabel-fits m n g f.states (names g) (distinct same g.states) g.root (omega arith)
    (λ i h. let (s, b, e) = distinct_from same same-sound blank g.states i h in (s, b, sym e)) (λ s i e. (placed g s i e).0) (round-rooted g f.root)

pub merged-fits : (m n : ℕ) (g : Graph) → Fits m n g → Fits m n (merged g).graph
merged-fits m n = merged-keep (Fits m n) (round-fits m n)

pub merged-few : (m n : ℕ) (g : Graph) → Fits m n g → length (merged g).graph.states ≤ length g.states
merged-few m n g f = (merged-fits m (length g.states) g (tight m n g f)).few

-- ---- the build of a legal table

module _ (w : List ℕ) (legal : refusal w ≡ 0) where
  abbrev t : Table
  t = table_of w

  sh : Shaped t
  sh = legal-shaped w legal

  module _ (s₀ : ℕ) (st : (table_of w).start ≡ Some s₀) where
    whole-fits : AllFit (get_or w 2 0) (whole_graph t s₀)
    unfolding first_state
    whole-fits s h =
        let h' : s < size t = rw (whole_length t sh s₀ st) at h in
        rw (whole-state t sh s₀ st s h')
        (record { width = length-map (row_of t s).steps edge ∙ sh.width s h'; accept-below = legal-leaf w legal s; early-below = λ l e. absurd (none-some e) })

    -- rules 2 to 4
    pub first_fits : Fits (get_or w 2 0) (get_or w 0 0) (restrict (reached (table_of w) s₀) (whole_graph (table_of w) s₀))
    unfolding whole_graph
    first_fits =
        let z = whole_length t sh s₀ st in
        let y = size_is w in
        let b = reached-below t sh s₀ st s₀ (reached-start t sh s₀ st) in
        restrict-fits (whole_graph t s₀) (reached t s₀) (lengths t sh s₀ st) (λ _. reached-start t sh s₀ st) (get_or w 2 0) (get_or w 0 0) whole-fits (omega arith) (inl (omega arith))

    unpruned-fits : Fits (get_or w 2 0) (get_or w 0 0) (unpruned t s₀)
    unfolding unpruned
    unpruned-fits = cleared-fits _ _ _ (early-fits _ _ _ first_fits)

  pub build-fits : Fits (get_or w 2 0) (get_or w 0 0) (build (table_of w)).graph
  unfolding build to state_of
  build-fits = go t.start refl (empty_leaves t)
    where
      no-states : Fits (get_or w 2 0) (get_or w 0 0) (record { states = []; root = 0 })
      no-states =
          record { states = λ i h. absurd (not-suc-le-zero h); closed = λ s c u e. absurd (none-some e); few = zero-le; root = inr (refl, refl) }

      go : (o : Option ℕ) → t.start ≡ o → (l : List ℕ) → Fits (get_or w 2 0) (get_or w 0 0) (build_from t o l).graph
      go None e l = no-states
      go (Some s) e (x ∷ l) = no-states
      go (Some s) e [] = merged-fits _ _ _ (pruned-fits _ _ _ (unpruned-fits s e))
