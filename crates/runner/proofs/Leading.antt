-- How a byte is led on by a state's plan words: the tests that they name are the ones that decide. Assumes nothing.
use Rattle.std.proofs.Common.{◌≡◌, refl, sym, ap, subst, ◌∙◌, Bool, true, false, cond, List, [], ◌∷◌, ℕ, zero, suc, ◌+◌, ◌≤◌, ◌<◌, length, get_or, arith, Option, Some, None, IfSome, MatchOption, slice_get, unwrap_or, eqb, eqb-true}
use Rattle.std.proofs.lemmas.Bool.{eqb-false}
use Rattle.lists.proofs.Bools.{Is, yes-is, no-is, is}
use Rattle.graph_rules.specs.Layout.{most_states}
use Rattle.graph_rules.specs.Graph.{State, Graph, state_of, to, graph_from}
use Rattle.graph_rules.proofs.Flat.{from-length}
use Rattle.graph_rules.proofs.Taken.{taken-few}
use Rattle.classes.specs.Classes.{some_holds}
use Rattle.mask_store.specs.Layout.{most_masks}
use Rattle.mask_store.specs.Masks.{mask_has}
use Rattle.plan_rules.specs.declared.EdgeWord.{EdgeWord}
use Rattle.plan_rules.specs.declared.EdgeWord.TheVariants.{Nothing, Tests, Mask, Table}
use Rattle.plan_rules.specs.Plan.{base, table_word, own_place, edge_place, test_said, edge_said}
use Rattle.plan_rules.specs.Run.{edge_takes, along, led_by, rows_of}
use Rattle.plan_rows.proofs.Forks.{target_below}
use Rattle.plan_rows.proofs.Words.{said-other}
use Rattle.runner.specs.declared.planned.Planned.{Planned}
use Rattle.runner.specs.declared.edge.Edge.{Edge}
use Rattle.runner.specs.Prepared.{no_edge, tests_of, targets_of, edge_at, edge_to, led_along}
use Rattle.runner.proofs.Preparing.{kept-target, kept-tests}
use Rattle.runner.proofs.OnPlan.{self-few, led-table, led-edges, no_table, edge_few, edge-missing, edge-compared}

-- ---- along the first two edges of a state

module _ (tables : List ℕ) (st : State) (b : ℕ) where
  no-words : (ts : List ℕ) → along tables st ts [] b ≡ None
  no-words [] = refl
  no-words (u ∷ ts) = refl

  one-word : (ts : List ℕ) (v : ℕ) → along tables st ts (v ∷ []) b ≡ led_along tables st (slice_get ts 0) v b
  one-word [] v = refl
  one-word (u ∷ ts) v = go (edge_takes tables st u v b)
    where
      go : (t : Bool) → elim t [ true ↦ Some u | false ↦ along tables st ts [] b ] ≡ cond t (Some u) None
      go true = refl
      go false = no-words ts

  along-first : (ts : List ℕ) (w v : ℕ) {u : ℕ} → led_along tables st (slice_get ts 0) w b ≡ Some u → along tables st ts (w ∷ v ∷ []) b ≡ Some u
  along-first [] w v e = cc
  along-first (x ∷ ts) w v {u} e = go (edge_takes tables st x w b) e
    where
      go : (t : Bool) → cond t (Some x) None ≡ Some u → elim t [ true ↦ Some x | false ↦ along tables st ts (v ∷ []) b ] ≡ Some u
      go true q = q
      go false q = cc

  along-second : (ts : List ℕ) (w v : ℕ) → led_along tables st (slice_get ts 0) w b ≡ None → along tables st ts (w ∷ v ∷ []) b ≡ led_along tables st (slice_get ts 1) v b
  along-second [] w v e = refl
  along-second (x ∷ ts) w v e = go (edge_takes tables st x w b) e
    where
      go : (t : Bool) → ◌≡◌ {A = Option ℕ} (cond t (Some x) None) None → elim t [ true ↦ Some x | false ↦ along tables st ts (v ∷ []) b ] ≡ led_along tables st (slice_get ts 0) v b
      go true q = cc
      go false q = one-word ts v

-- what a word that is no table's says
is-nothing : (w : ℕ) → test_said w ≡ Nothing → w ≡ 0
is-nothing zero e = refl
is-nothing (suc zero) e = cc
is-nothing (suc (suc i)) e = cc

is-tests : (w : ℕ) → test_said w ≡ Tests → w ≡ 1
is-tests zero e = cc
is-tests (suc zero) e = refl
is-tests (suc (suc i)) e = cc

is-mask : (w i : ℕ) → test_said w ≡ Mask i → w ≡ suc (suc i)
is-mask zero i e = cc
is-mask (suc zero) i e = cc
is-mask (suc (suc k)) i e = cc

no_table-said : (w : ℕ) → test_said w ≡ Table → ⊥
no_table-said zero q = cc
no_table-said (suc zero) q = cc
no_table-said (suc (suc i)) q = cc

-- ---- of a graph that is ready to run texts

module _ (p : Planned) where
  abbrev g : Graph
  g = graph_from p.graph.words.now

  module _ (s : ℕ) (here : s < get_or p.graph.words.now 0 0) where
    abbrev row : List ℕ
    row = get_or (rows_of base g p.plan.now) s []

    abbrev st : State
    st = state_of g s

    abbrev ts : List ℕ
    ts = targets_of g s

    pub inside : s < length g.states
    inside = subst (λ (n : ℕ). s < n) (sym (from-length p.graph.words.now)) here

    pub state-few : s < most_states
    state-few = omega (arith, taken-few p.graph.words.now p.graph.fits)

    pub own-there : own_place base s < length p.plan.now
    own-there = let r = p.room in omega (arith, inside)

    pub edge-there : (j : ℕ) → j < base.edges → edge_place base s j < length p.plan.now
    edge-there j l = let r = p.room in omega (arith, inside)

    pub place-there : (j : ℕ) → j < base.edges → edge_at s j < length p.edges.now
    place-there j l = let r = p.size in omega (arith, state-few)

    -- the edge that is kept there
    kept-edge : (j : ℕ) → j < base.edges → get_or p.edges.now (edge_at s j) no_edge ≡ edge_to g s (slice_get ts j)
    kept-edge j l = p.prepared s j inside l

    pub mask-few : get_or p.plan.now (own_place base s) 0 ≤ most_masks
    mask-few = self-few g p.plan.now p.plan_on s inside

    pub by-table : (b : ℕ) → Table ≡ edge_said (get_or p.plan.now (edge_place base s 0) 0) → led_by g row p.tables.now s b ≡ to g s b
    by-table b e = led-table g p.plan.now p.plan_on s inside p.tables.now b (go (get_or p.plan.now (edge_place base s 0) 0) e)
      where
        go : (w : ℕ) → Table ≡ edge_said w → w ≡ table_word
        go w e = at (is (eqb w table_word))
          where
            at : Is (eqb w table_word) → w ≡ table_word
            at (yes-is q) = eqb-true _ _ q
            at (no-is q) = absurd (no_table-said w (sym (said-other (eqb-false _ _ q)) ∙ sym e))

    module _ (plain : get_or p.plan.now (edge_place base s 0) 0 ≡ table_word → ⊥) where
      module _ (j : ℕ) (l : j < base.edges) where
        abbrev word : ℕ
        word = get_or p.plan.now (edge_place base s j) 0

        word-few : word < 2 + most_masks
        word-few = edge_few g p.plan.now p.plan_on s inside plain j l

        said : {t : EdgeWord} → t ≡ edge_said word → test_said word ≡ t
        said e = sym (said-other (λ q. let f = word-few in omega arith)) ∙ sym e

        pub not-table : Table ≡ edge_said word → ⊥
        not-table e = no_table-said word (said e)

        pub mask-held : {i : ℕ} → Mask i ≡ edge_said word → i < most_masks
        mask-held {i} e = let q = is-mask word i (said e) in let f = word-few in omega arith

        module _ (b : ℕ) where
          -- what its test answers
          abbrev pub Takes : Bool → Type 0
          Takes x = MatchOption (slice_get ts j) (x ≡ false) (λ u. x ≡ edge_takes p.tables.now st u word b)

          takes-by : (x : Bool) → (slice_get ts j ≡ None → x ≡ false) → ((u : ℕ) → slice_get ts j ≡ Some u → x ≡ edge_takes p.tables.now st u word b) → Takes x
          takes-by x a f = go (slice_get ts j) a f
            where
              go : (o : Option ℕ) → (o ≡ None → x ≡ false) → ((u : ℕ) → o ≡ Some u → x ≡ edge_takes p.tables.now st u word b)
                  → MatchOption o (x ≡ false) (λ u. x ≡ edge_takes p.tables.now st u word b)
              go None a f = a refl
              go (Some u) a f = f u refl

          pub takes-nothing : Nothing ≡ edge_said word → Takes false
          takes-nothing e = let z = is-nothing word (said e) in takes-by false (λ q. refl) (λ u q. rw z refl)

          missing : slice_get ts j ≡ None → word ≡ 0
          missing q = edge-missing g p.plan.now p.plan_on s inside plain j l q

          pub takes-tests : Tests ≡ edge_said word → {x : Bool} → x ≡ some_holds (tests_of (get_or p.edges.now (edge_at s j) no_edge)) b → Takes x
          takes-tests e {x} h =
              let z = is-tests word (said e) in
              takes-by x (λ q. let m = missing q in absurd (omega arith))
              (λ u q.
              rw z
              (h ∙ ap (λ x. some_holds x b) (ap tests_of (kept-edge j l ∙ ap (edge_to g s) q) ∙ kept-tests g s u (no_table g p.plan.now p.plan_on s inside plain) (edge-compared g p.plan.now p.plan_on s inside plain j l z q))))

          pub takes-mask : {i : ℕ} → Mask i ≡ edge_said word → {x : Bool} → x ≡ mask_has p.tables.now i b → Takes x
          takes-mask {i} e {x} h =
              let z = is-mask word i (said e) in
              takes-by x (λ q. let m = missing q in absurd (omega arith)) (λ u q. rw z h)

          -- and where it leads
          pub leads : {x : Bool} → Takes x → x ≡ true
              → Some (get_or p.edges.now (edge_at s j) no_edge).target ≡ led_along p.tables.now st (slice_get ts j) word b
          leads {x} t e = go (slice_get ts j) refl t
            where
              go : (o : Option ℕ) → slice_get ts j ≡ o → MatchOption o (x ≡ false) (λ u. x ≡ edge_takes p.tables.now st u word b)
                  → Some (get_or p.edges.now (edge_at s j) no_edge).target ≡ led_along p.tables.now st o word b
              go None q k = let z : true ≡ false = sym e ∙ k in cc
              go (Some u) q k = rw (sym k ∙ e) (ap (λ (m : ℕ). Some m) (ap (λ (e : Edge). e.target) (kept-edge j l) ∙ kept-target g s (slice_get ts j) ∙ ap (λ (x : Option ℕ). unwrap_or x 0) q))

          pub leads-not : {x : Bool} → Takes x → x ≡ false → None ≡ led_along p.tables.now st (slice_get ts j) word b
          leads-not {x} t e = go (slice_get ts j) t
            where
              go : (o : Option ℕ) → MatchOption o (x ≡ false) (λ u. x ≡ edge_takes p.tables.now st u word b) → None ≡ led_along p.tables.now st o word b
              go None k = refl
              go (Some u) k = rw (sym k ∙ e) refl

          pub led-below : {r : Option ℕ} → r ≡ led_along p.tables.now st (slice_get ts j) word b → IfSome r (λ u. u < get_or p.graph.words.now 0 0)
          led-below {r} e = rw e (go (slice_get ts j) (target_below (length g.states) st j))
            where
              pick : (u : ℕ) → u < length g.states → (t : Bool) → IfSome (cond t (Some u) None) (λ u. u < get_or p.graph.words.now 0 0)
              pick u h true = omega (arith, from-length p.graph.words.now)
              pick u h false = tt

              go : (o : Option ℕ) → IfSome o (λ u. u < length g.states) → IfSome (led_along p.tables.now st o word b) (λ u. u < get_or p.graph.words.now 0 0)
              go None h = tt
              go (Some u) h = pick u h (edge_takes p.tables.now st u word b)

      module _ (b : ℕ) where
        abbrev led : ℕ → Option ℕ
        led j = led_along p.tables.now st (slice_get ts j) (get_or p.plan.now (edge_place base s j) 0) b

        pub by-first : {r : Option ℕ} {u : ℕ} → r ≡ led 0 → r ≡ Some u → Some u ≡ led_by g row p.tables.now s b
        by-first e q = sym (led-edges g p.plan.now p.plan_on s inside plain p.tables.now b ∙ along-first p.tables.now st b ts _ _ (sym e ∙ q))

        pub by-second : {r t : Option ℕ} → r ≡ led 0 → r ≡ None → t ≡ led 1 → t ≡ led_by g row p.tables.now s b
        by-second e q f =
            f ∙ sym (led-edges g p.plan.now p.plan_on s inside plain p.tables.now b ∙ along-second p.tables.now st b ts _ _ (sym e ∙ q))
