-- The unpruned graph (rules 2 to 6) of a table: the three facts of `Alike` hold of it where the table is orderly. Assumes nothing.
use Rattle.std.specs.Prelude.{Option, Some, None}
use mathlib.Core.Path.{◌≡◌, refl, sym, ap, subst, ◌∙◌}
use mathlib.Core.Bool.{true}
use mathlib.Core.List.{List, map}
use mathlib.Core.Logic.{◌⊎◌, inl, inr, ⊎_elim}
use Prim.Native.Nat.{ℕ, zero, suc, ◌≤◌, ◌<◌}
use native.Mathlib.Nat.{le_of_suc-le-suc, eq-or-lt_of_le}
use native.Mathlib.Omega.{arith}
use borrow.Author.Tests.{eq-eqb}
use lib.Dec.{eqb}
use lib.ListN.{length, get_or, length-map, get_or-map}
use Rattle.lists.specs.Sets.{In}
use Rattle.lists.specs.Lists.{below, select, number_from}
use Rattle.lists.proofs.Closure.{in-below, closure-seed, closure-closed}
use Rattle.lists.proofs.Elements.{get_or-tab0, length-tab, map_at}
use Rattle.lists.proofs.Bools.{none-some, some_inj}
use Rattle.lists.proofs.Numbering.{in-number, number_in}
use Rattle.lists.proofs.Any.{any_at}
use Rattle.graph_rules.specs.Table.{Table, size, row_of, step}
use Rattle.graph_rules.specs.Graph.{State, Graph, blank, state_of, to, accept_of, early_of}
use Rattle.graph_rules.specs.Build.{steps_to, reached, renamed, restrict, leaf_of, edge, first_state, whole_graph, with_early, covered, unpruned}
use Rattle.graph_rules.specs.Read.{Orderly}
use Rattle.graph_rules.proofs.Rename.{Named, led, new-accept, new-root, new-to, relabel-state}
use Rattle.graph_rules.proofs.Prune.{restrict-found, restrict-length, restrict-placed}
use Rattle.graph_rules.proofs.Marks.{cleared-accept, cleared-early, cleared-to, covered-parent, early-accept, early-byte, early-end, early-length, early-to}
use Rattle.graph_rules.proofs.Counts.{reached-length}
use Rattle.graph_rules.proofs.Shape.{Shaped}
use Rattle.graph_rules.proofs.Alike.{Facts}
use Rattle.graph_rules.specs.Layout.{end_step, step_count}

-- ---- edges and steps

pub edge-is : (x u : ℕ) → edge x ≡ Some u → x ≡ u
edge-is zero u e = absurd (none-some e)
edge-is (suc x) u e = some_inj e

module _ (t : Table) (sh : Shaped t) (s₀ : ℕ) (st : t.start ≡ Some s₀) where
  -- ---- rule 2

  pub reached-below : (s : ℕ) → In (reached t s₀) s → s < size t
  reached-below s h = let l = reached-length t s₀ in let b = in-below (reached t s₀) s h in omega arith

  pub reached-start : In (reached t s₀) s₀
  unfolding reached
  reached-start = closure-seed (steps_to t) (size t) (eqb s₀) s₀ (sh.start-below s₀ st) (eq-eqb s₀ s₀ refl)

  pub reached-step : (s c : ℕ) → In (reached t s₀) s → c < step_count → In (reached t s₀) (step t s c)
  unfolding reached step
  reached-step s c h b =
      let w = sh.width s (reached-below s h) in
      closure-closed (steps_to t) (size t) (eqb s₀) s (step t s c) h (sh.step-below s c (reached-below s h))
      (any_at (eqb (step t s c)) 0 (row_of t s).steps c (omega arith) (eq-eqb (step t s c) (step t s c) refl))

  abbrev pub names : List (Option ℕ)
  names = number_from 0 (reached t s₀)

  abbrev pub whole : Graph
  whole = whole_graph t s₀

  abbrev pub first : Graph
  first = restrict (reached t s₀) whole

  pub whole_length : length (whole_graph t s₀).states ≡ size t
  unfolding whole_graph
  whole_length = length-map (below (size t)) (first_state t) ∙ length-tab 0 (size t) (λ i. i)

  pub whole-state : (s : ℕ) → s < size t → state_of whole s ≡ first_state t s
  unfolding state_of whole_graph
  whole-state s h =
      map_at (first_state t) (below (size t)) s 0 blank (rw (length-tab 0 (size t) (λ i. i)) h) ∙ ap (first_state t) (get_or-tab0 (size t) (λ i. i) s 0 h)

  pub lengths : length (reached t s₀) ≡ length whole.states
  lengths = reached-length t s₀ ∙ sym whole_length

  module _ (s i : ℕ) (n : Named names s i) where
    named_in : In (reached t s₀) s
    named_in = in-number 0 (reached t s₀) s i n

    state-is : state_of whole s ≡ first_state t s
    state-is = whole-state s (reached-below s named_in)

    first-accept : accept_of first i ≡ leaf_of t s
    unfolding restrict accept_of first_state
    first-accept =
        new-accept whole names (select (reached t s₀) whole.states) (restrict-found whole (reached t s₀) lengths) s i n
        ∙ ap (λ (x : State). x.accept) state-is

    first_to : (c : ℕ) → to first i c ≡ led names (edge (step t s c))
    unfolding restrict to first_state step
    first_to c =
        new-to whole names (select (reached t s₀) whole.states) (restrict-found whole (reached t s₀) lengths) s i n c
        ∙ ap (led names) (ap (λ (x : State). get_or x.steps c None) state-is ∙ get_or-map edge (row_of t s).steps c 0)

    first-within : i < length first.states
    first-within = rw (restrict-length whole (reached t s₀) lengths) (restrict-placed whole (reached t s₀) lengths s i n).0

    first_width : 256 ≤ length (state_of first i).steps
    unfolding restrict renamed first_state
    first_width =
        let w = sh.width s (reached-below s named_in) in
        let e : length (state_of first i).steps ≡ length (row_of t s).steps =
        ap (λ (x : State). length x.steps)
        (relabel-state names (select (reached t s₀) whole.states) whole.root i
        ∙ ap (renamed names) (restrict-found whole (reached t s₀) lengths s i n ∙ state-is))
        ∙ length-map (map edge (row_of t s).steps) _ ∙ length-map (row_of t s).steps edge in
        omega arith

  pub first-root : (i : ℕ) → Named names s₀ i → first.root ≡ i
  unfolding restrict whole_graph
  first-root i n = new-root whole names (select (reached t s₀) whole.states) (restrict-found whole (reached t s₀) lengths) i n

  -- ---- rules 5 and 6

  pub un-to : (s i : ℕ) → Named names s i → (c : ℕ) → to (unpruned t s₀) i c ≡ led names (edge (step t s c))
  unfolding unpruned
  un-to s i n c = cleared-to (with_early first) i c ∙ early-to first i c ∙ first_to s i n c

  un-early : (i : ℕ) → early_of (unpruned t s₀) i ≡ early_of (with_early first) i
  unfolding unpruned
  un-early i = cleared-early (with_early first) i

  pub un-accept : (s i : ℕ) → Named names s i
      → ((covered (with_early first) i ≡ true) × (accept_of (unpruned t s₀) i ≡ None)) ⊎ (accept_of (unpruned t s₀) i ≡ leaf_of t s)
  unfolding unpruned
  un-accept s i n =
      ⊎_elim (λ x. inl x) (λ e. inr (e ∙ early-accept first i ∙ first-accept s i n))
      (cleared-accept (with_early first) i (rw (early-length first) (first-within s i n)))

  -- ---- the facts

  un-ends : (s i c : ℕ) → Named names s i → edge (step t s c) ≡ None → to (unpruned t s₀) i c ≡ None
  un-ends s i c n e = un-to s i n c ∙ ap (led names) e

  pub un-leads : (s i c u : ℕ) → Named names s i → c < step_count → edge (step t s c) ≡ Some u
      → (j : ℕ) × Named names u j × (to (unpruned t s₀) i c ≡ Some j)
  un-leads s i c u n h e =
      let (j, m) = number_in 0 (reached t s₀) u (subst (In (reached t s₀)) (edge-is _ u e) (reached-step s c (named_in s i n) h)) in
      (j, m, un-to s i n c ∙ ap (led names) e ∙ m)

  un-after : (s i c u j : ℕ) → Named names s i → edge (step t s c) ≡ Some u → Named names u j → early_of (unpruned t s₀) i ≡ None
      → accept_of (unpruned t s₀) j ≡ leaf_of t u
  un-after s i c u j n e m q =
      ⊎_elim
      (λ x.
      let to_j : to (with_early first) i c ≡ Some j = early-to first i c ∙ first_to s i n c ∙ ap (led names) e ∙ m in
      x.1 ∙ sym q ∙ un-early i ∙ covered-parent (with_early first) i c j to_j x.0 ∙ early-accept first j ∙ first-accept u j m)
      (λ x. x)
      (un-accept u j m)

  -- from an edge of the graph back to the step
  from-to : (s i c j : ℕ) → Named names s i → to first i c ≡ Some j → (u : ℕ) × (edge (step t s c) ≡ Some u) × Named names u j
  from-to s i c j n e = go (edge (step t s c)) refl
    where
      go : (o : Option ℕ) → edge (step t s c) ≡ o → (u : ℕ) × (edge (step t s c) ≡ Some u) × Named names u j
      go None q = absurd (none-some (ap (led names) (sym q) ∙ sym (first_to s i n c) ∙ e))
      go (Some u) q = (u, q, ap (led names) (sym q) ∙ sym (first_to s i n c) ∙ e)

  pub un-byte : (s i l b : ℕ) → Named names s i → early_of (unpruned t s₀) i ≡ Some l → b < 256
      → (u : ℕ) × (edge (step t s b) ≡ Some u) × (leaf_of t u ≡ Some l)
  un-byte s i l b n q h =
      let (j, e, a) = early-byte first i l b (sym (un-early i) ∙ q) (first_width s i n) h in
      let (u, e', m) = from-to s i b j n e in
      (u, e', sym (first-accept u j m) ∙ a)

  module _ (orderly : Orderly t) where
    un-end : (s i l : ℕ) → Named names s i → early_of (unpruned t s₀) i ≡ Some l → (u : ℕ) × (edge (step t s end_step) ≡ Some u) × (leaf_of t u ≡ Some l)
    un-end s i l n q = go (step t s end_step) refl
      where
        all : (b : ℕ) → b < 256 → leaf_of t (step t s b) ≡ Some l
        all b h = let (u, e, a) = un-byte s i l b n q h in ap (leaf_of t) (edge-is _ u e) ∙ a

        go : (x : ℕ) → step t s end_step ≡ x → (u : ℕ) × (edge (step t s end_step) ≡ Some u) × (leaf_of t u ≡ Some l)
        go zero e = absurd (orderly.end-too s₀ s l st (named_in s i n) all e)
        go (suc u) e =
            let e' : edge (step t s end_step) ≡ Some (suc u) = ap edge e in
            let (j, m, e'') = un-leads s i end_step (suc u) n (omega arith) e' in
            let e₁ : to first i end_step ≡ Some j = first_to s i n end_step ∙ ap (led names) e' ∙ m in
            (suc u, e', sym (first-accept (suc u) j m) ∙ early-end first i l j (sym (un-early i) ∙ q) e₁)

    pub un-facts : Facts t (unpruned t s₀) (Named names)
    un-facts =
        record {
          ends = λ s i c n h e. un-ends s i c n e;
          leads = λ s i c u n h e. un-leads s i c u n h e;
          early-leads = λ s i l c n q h. ⊎_elim
              (λ e. subst (λ (x : ℕ). (u : ℕ) × (edge (step t s x) ≡ Some u) × (leaf_of t u ≡ Some l)) (sym e) (un-end s i l n q))
              (λ b. un-byte s i l c n q b)
              (eq-or-lt_of_le (le_of_suc-le-suc h));
          accept-or = λ s i n. ⊎_elim (λ x. inr x.1) (λ x. inl x) (un-accept s i n);
          accept-after = λ s i c u j n h e m q. un-after s i c u j n e m q;
        }
