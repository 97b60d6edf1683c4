-- A graph restricted to a set of its states (rules 2 and 7), and the prune: from a state that is not kept nothing is recorded, so readings stay.
-- Assumes nothing.
use Rattle.std.specs.Prelude.{Option, Some, None}
use mathlib.Core.Path.{◌≡◌, refl, sym, ap, ◌∙◌}
use mathlib.Core.Bool.{Bool, true, ◌||◌}
use mathlib.Core.List.{List}
use mathlib.Core.Logic.{⊎_elim}
use Prim.Native.Nat.{ℕ, ◌<◌}
use native.Mathlib.Omega.{arith}
use borrow.Author.Tests.{eq-eqb}
use lib.Dec.{eqb}
use lib.ListN.{length, get_or, length-map}
use Rattle.lists.specs.Sets.{In}
use Rattle.lists.specs.Lists.{select, number_from}
use Rattle.lists.proofs.Closure.{closure-length, closure-seed, closure-closed}
use Rattle.lists.proofs.Bools.{or_left, or_right, none-some, lt-or-le}
use Rattle.lists.proofs.Numbering.{in-number, number-found, number_in, number-onto}
use Rattle.graph_rules.specs.Graph.{Graph, blank, state_of, to, accept_of, early_of, leads, FromRoot}
use Rattle.graph_rules.specs.Build.{renamed, relabel, restrict, kept, pruned, marked, present}
use Rattle.graph_rules.specs.Read.{graph_walker, read_graph}
use Rattle.graph_rules.proofs.Walks.{Quiet, graph-quiet}
use Rattle.graph_rules.proofs.Views.{edge_leads, edge-within, out-accept, out-early}
use Rattle.graph_rules.proofs.Rename.{Named, new-root, relabel-path, relabel-reads}

-- ---- a graph restricted

module _ (g : Graph) (keep : List Bool) (len : length keep ≡ length g.states) where
  pub restrict-placed : (s i : ℕ) → Named (number_from 0 keep) s i → (i < length (select keep g.states)) × (get_or (select keep g.states) i blank ≡ state_of g s)
  unfolding state_of
  restrict-placed s i n =
      let (j, a, b, c) = number-found blank 0 keep g.states len s i n in
      let e : i ≡ j = omega arith in
      (omega arith, ap (λ (x : ℕ). get_or (select keep g.states) x blank) e ∙ c)

  pub restrict-found : (s i : ℕ) → Named (number_from 0 keep) s i → get_or (select keep g.states) i blank ≡ state_of g s
  restrict-found s i n = (restrict-placed s i n).1

  pub restrict-length : length (restrict keep g).states ≡ length (select keep g.states)
  unfolding restrict relabel
  restrict-length = length-map (select keep g.states) (renamed (number_from 0 keep))

  pub restrict-root : In keep g.root → (restrict keep g).root < length (restrict keep g).states
  unfolding restrict
  restrict-root h =
      let (i, n) = number_in 0 keep g.root h in
      rw (restrict-length, new-root g (number_from 0 keep) (select keep g.states) restrict-found i n) (restrict-placed g.root i n).0

  -- every state of the restricted graph is the new name of a member
  pub restrict-onto : (i : ℕ) → i < length (restrict keep g).states → (s : ℕ) × Named (number_from 0 keep) s i
  restrict-onto i h =
      let (s, e) = number-onto blank 0 keep g.states i (rw restrict-length at h) in (s, e ∙ ap {B = Option ℕ} Some (omega arith))

-- ---- the prune

module _ (g : Graph) where
  pub kept-length : length (kept g) ≡ length g.states
  unfolding kept
  kept-length = closure-length (λ k s. leads (state_of g s) k) (length g.states) _

  -- a state with an edge to a kept one is kept
  pub kept_back : (s c u : ℕ) → to g s c ≡ Some u → In (kept g) u → In (kept g) s
  unfolding kept
  kept_back s c u e h =
      closure-closed (λ k s. leads (state_of g s) k) (length g.states) (λ s. marked (state_of g s) || eqb g.root s)
      u s h (edge-within g s c u e) (edge_leads g s c u e)

  kept-seed : (s : ℕ) → s < length g.states → (marked (state_of g s) || eqb g.root s) ≡ true → In (kept g) s
  unfolding kept
  kept-seed s h e = closure-seed (λ k s. leads (state_of g s) k) (length g.states) _ s h e

  pub kept-root : g.root < length g.states → In (kept g) g.root
  kept-root h = kept-seed g.root h (or_right (marked (state_of g g.root)) _ (eq-eqb g.root g.root refl))

  -- a state that is not kept has no marks
  lone-accept : (s : ℕ) → (In (kept g) s → ⊥) → accept_of g s ≡ None
  unfolding accept_of
  lone-accept s h = go (accept_of g s) refl
    where
      go : (o : Option ℕ) → accept_of g s ≡ o → accept_of g s ≡ None
      go None e = e
      go (Some l) e =
          ⊎_elim
          (λ b. absurd (h (kept-seed s b (or_left (marked (state_of g s)) _ (or_left _ _ (ap present e))))))
          (λ b. out-accept g s b)
          (lt-or-le s (length g.states))

  lone-early : (s : ℕ) → (In (kept g) s → ⊥) → early_of g s ≡ None
  unfolding early_of
  lone-early s h = go (early_of g s) refl
    where
      go : (o : Option ℕ) → early_of g s ≡ o → early_of g s ≡ None
      go None e = e
      go (Some l) e =
          ⊎_elim
          (λ b. absurd (h (kept-seed s b
          (or_left (marked (state_of g s)) _ (or_right (present (state_of g s).accept) _ (ap present e))))))
          (λ b. out-early g s b)
          (lt-or-le s (length g.states))

  quiet : (s : ℕ) → get_or (number_from 0 (kept g)) s None ≡ None → Quiet (graph_walker g) s
  quiet s e =
      graph-quiet g (λ s. In (kept g) s → ⊥) lone-accept lone-early (λ s c u h q k. h (kept_back s c u q k)) s
      (λ k. let (i, n) = number_in 0 (kept g) s k in none-some (sym e ∙ n))

  pub pruned-reads : g.root < length g.states → (text : List ℕ) → read_graph (pruned g) text ≡ read_graph g text
  unfolding pruned restrict
  pruned-reads h text =
      let (i, n) = number_in 0 (kept g) g.root (kept-root h) in
      relabel-reads g (number_from 0 (kept g)) (select (kept g) g.states) (restrict-found g (kept g) kept-length) quiet i n text

  pub pruned-root : g.root < length g.states → (pruned g).root < length (pruned g).states
  unfolding pruned
  pruned-root h = restrict-root g (kept g) kept-length (kept-root h)

  pub pruned-path : ((s : ℕ) → In (kept g) s → FromRoot g s) → (i : ℕ) → i < length (pruned g).states → FromRoot (pruned g) i
  unfolding pruned restrict
  pruned-path all i h =
      let (s, n) = restrict-onto g (kept g) kept-length i h in
      relabel-path g (number_from 0 (kept g)) (select (kept g) g.states) (restrict-found g (kept g) kept-length)
      (λ s c u j e m. number_in 0 (kept g) s (kept_back s c u e (in-number 0 (kept g) u j m)))
      s (all s (in-number 0 (kept g) s i n)) i n
