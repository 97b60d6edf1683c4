-- The classes that a state needs, by how its edges are tested, and those of one state after another, added to a store. Assumes nothing.
use Rattle.std.proofs.Common.{◌≡◌, refl, sym, ap, ◌∙◌, Bool, true, false, cond, List, [], ◌∷◌, ◌++◌, append_assoc, ℕ, ◌+◌, ◌-◌, ◌<◌, arith, ltb, ltb-false, length, get_or, Option, Some, None, Result, Ok, Err, slice_get}
use mathlib.Core.List.{flat_map, append-nil}
use Rattle.lists.specs.Lists.{all_l}
use Rattle.lists.proofs.Flattened.{append-all}
use Rattle.graph_rules.specs.Graph.{State, Graph, state_of, graph_from, graph_fits}
use Rattle.graph_rules.specs.Layout.{step_count}
use Rattle.graph_rules.proofs.Flat.{from-length, from-width}
use Rattle.graph_rules.proofs.Taken.{taken-long}
use Rattle.refusals.specs.declared.Refusal.{Refusal}
use Rattle.classes.specs.Classes.{Class}
use Rattle.edges.specs.Edges.{class_to, targets}
use Rattle.mask_store.specs.declared.MaskStore.{MaskStore}
use Rattle.mask_store.specs.Layout.{store_size}
use Rattle.mask_store.specs.Masks.{allowed}
use Rattle.mask_store.proofs.Growth.{whole}
use Rattle.plan_rules.proofs.OwnStore.{whole_below, own-whole, masked-whole}
use Rattle.plan_rules.specs.Plan.{base, by_table, way_to, self_needs, edge_needs, state_needs, needs}
use Rattle.plan_rows.specs.Needs.{grown_by, edge_need}
use Rattle.plan_rows.specs.declared.fork.Fork.{Fork}
use Rattle.plan_rows.specs.Fork.{fork_of}
use Rattle.plan_rows.proofs.Forks.{fork-own, fork-table, fork-lowest}
use Rattle.plan_rows.proofs.Rowwise.{rows_to, rows_more, rows-front}
use Rattle.plan_rows.proofs.Growing.{by-none, grown-stops, grown-more}

-- ---- the classes of one state, by how its edges are tested

module _ (st : State) (s : ℕ) where
  edges-table : (ts : List ℕ) → by_table base ts ≡ true → edge_needs base st s ts ≡ []
  unfolding edge_needs
  edges-table ts h = rw h

  edges-each : (ts : List ℕ) → by_table base ts ≡ false → edge_needs base st s ts ≡ edge_need st s (slice_get ts 0) ++ edge_need st s (slice_get ts 1)
  unfolding edge_needs by_table flat_map
  edges-each [] h = refl
  edges-each (x ∷ []) h = refl
  edges-each (x ∷ y ∷ []) h = ap (λ (l : List Class). edge_need st s (Some x) ++ l) (append-nil (edge_need st s (Some y)))
  edges-each (x ∷ y ∷ z ∷ ts) h = absurd (omega (arith, ltb-false 2 (length (x ∷ y ∷ z ∷ ts)) h))

  -- each has 256 flags
  pub edge-whole : length st.steps ≡ step_count → (t : Option ℕ) → all_l whole (edge_need st s t) ≡ true
  edge-whole w None = refl
  edge-whole w (Some u) = masked-whole base st w (way_to base st s u) u

module _ (g : Graph) (s : ℕ) {f : Fork} (is-fork : f ≡ fork_of g s) where
  abbrev st : State
  st = state_of g s

  abbrev ts : List ℕ
  ts = targets (length g.states) st

  abbrev pub own_need : List Class
  own_need = cond f.own (class_to st s ∷ []) []

  pub state-own : own_need ++ edge_needs base st s ts ≡ state_needs base g s
  unfolding state_needs self_needs
  state-own = ap (λ (b : Bool). cond b (class_to st s ∷ []) [] ++ edge_needs base st s ts) (fork-own g s is-fork)

  pub state-table : ltb base.edges f.count ≡ true → own_need ≡ state_needs base g s
  state-table h =
      sym (append-nil own_need) ∙ ap (λ (l : List Class). own_need ++ l) (sym (edges-table st s ts (fork-table g s is-fork h))) ∙ state-own

  abbrev pub low_need : List Class
  low_need = edge_need st s (get_or f.lowest 0 None)

  abbrev pub high_need : List Class
  high_need = edge_need st s (get_or f.lowest 1 None)

  pub state-each : ltb base.edges f.count ≡ false → (own_need ++ low_need) ++ high_need ≡ state_needs base g s
  state-each h =
      append_assoc own_need low_need high_need
      ∙ ap (λ (x : List (Option ℕ)). own_need ++ (edge_need st s (get_or x 0 None) ++ edge_need st s (get_or x 1 None))) (fork-lowest g s is-fork)
      ∙ ap (λ (x : List Class). own_need ++ x) (sym (edges-each st s ts (fork-table g s is-fork h)))
      ∙ state-own

-- ---- and added to a store: of the self edge, then of the edges, if these are tested one by one

module _ (w : List ℕ) (fits : graph_fits w ≡ true) (store : MaskStore) (size : length store.tables ≡ store_size) {s : ℕ} (h : s < get_or w 0 0) {f : Fork} (is-fork : f ≡ fork_of (graph_from w) s) where
  abbrev from : State
  from = state_of (graph_from w) s

  abbrev own : List Class
  own = own_need (graph_from w) s is-fork

  width : length from.steps ≡ step_count
  width = from-width w (taken-long w fits) s h

  own-wide : all_l whole own ≡ true
  own-wide = own-whole base from width s f.own

  -- of the self edge, if there is one
  pub own-added : f.own ≡ true → {c : Class} → c ≡ class_to from s → {r : Result MaskStore Refusal} → r ≡ grown_by store (c ∷ []) → r ≡ grown_by store own
  own-added o e g = rw (o, ← e) g

  pub own-absent : f.own ≡ false → allowed store ≡ true → grown_by store own ≡ Ok store
  own-absent o a = rw o (sym (by-none store a))

  pub own-stops : {x : Refusal} → grown_by store own ≡ Err x → Err x ≡ grown_by store (state_needs base (graph_from w) s)
  own-stops t =
      let n = length (graph_from w).states in
      grown-stops store own (edge_needs base from s (targets n from)) t ∙ ap (grown_by store) (state-own (graph_from w) s is-fork)

  module _ {by-own : MaskStore} (t : grown_by store own ≡ Ok by-own) where
    pub own-done : ltb base.edges f.count ≡ true → Ok by-own ≡ grown_by store (state_needs base (graph_from w) s)
    own-done k = sym t ∙ ap (grown_by store) (state-table (graph_from w) s is-fork k)

    module _ (k : ltb base.edges f.count ≡ false) where
      abbrev low : List Class
      low = low_need (graph_from w) s is-fork

      abbrev high : List Class
      high = high_need (graph_from w) s is-fork

      both-wide : all_l whole (own ++ low) ≡ true
      both-wide = append-all whole own low own-wide (edge-whole from s width (get_or f.lowest 0 None))

      both : grown_by by-own low ≡ grown_by store (own ++ low)
      both = grown-more store own size own-wide t low

      pub low-stops : {x : Refusal} → grown_by by-own low ≡ Err x → Err x ≡ grown_by store (state_needs base (graph_from w) s)
      low-stops q = grown-stops store (own ++ low) high (sym both ∙ q) ∙ ap (grown_by store) (state-each (graph_from w) s is-fork k)

      pub high-done : {by-low : MaskStore} → grown_by by-own low ≡ Ok by-low → grown_by by-low high ≡ grown_by store (state_needs base (graph_from w) s)
      high-done q = grown-more store (own ++ low) size both-wide (sym both ∙ q) high ∙ ap (grown_by store) (state-each (graph_from w) s is-fork k)

-- ---- the states, one after another

module _ (w : List ℕ) (store : MaskStore) where
  abbrev f : ℕ → List Class
  f = state_needs base (graph_from w)

  -- the store has taken the classes that the states below s need
  abbrev pub Going : MaskStore → ℕ → Type 0
  Going now s = grown_by store (rows_to f s) ≡ Ok now

  pub going-none : allowed store ≡ true → Going store 0
  unfolding flat_map
  going-none a = sym (by-none store a)

  module _ (fits : graph_fits w ≡ true) (size : length store.tables ≡ store_size) {now : MaskStore} {s : ℕ} (go : Going now s) (h : s < get_or w 0 0) where
    wide : all_l whole (rows_to f s) ≡ true
    wide = whole_below base w fits s (omega (arith, from-length w))

    next : grown_by now (f s) ≡ grown_by store (rows_to f (s + 1))
    next = grown-more store (rows_to f s) size wide go (f s) ∙ ap (grown_by store) (sym (rows_more f s))

    pub going_more : {m : MaskStore} → grown_by now (f s) ≡ Ok m → Going m (s + 1)
    going_more t = sym next ∙ t

    pub going-refused : {x : Refusal} → grown_by now (f s) ≡ Err x → Err x ≡ grown_by store (needs base (graph_from w))
    unfolding needs
    going-refused t =
        let n = length (graph_from w).states in
        let (rest, q) = rows-front f (s + 1) (n - (s + 1)) in
        let m : (s + 1) + (n - (s + 1)) ≡ n = omega (arith, from-length w) in
        grown-stops store (rows_to f (s + 1)) rest (sym next ∙ t) ∙ ap (grown_by store) (sym q ∙ ap (rows_to f) m)

  pub going_done : {now : MaskStore} {s : ℕ} → Going now s → s ≡ get_or w 0 0 → Ok now ≡ grown_by store (needs base (graph_from w))
  unfolding needs
  going_done go e = let n = e ∙ sym (from-length w) in sym go ∙ ap (λ (k : ℕ). grown_by store (rows_to f k)) n
