-- `FromRoot` held from both sides: a state of the set that computes is reached from the root (`computed-reached`), and a state that is reached is in that
-- set (`reached-computed`). A number that no state has may be led to, but leads nowhere, so no way goes through it. Assumes nothing.
use mathlib.Core.Path.{refl, subst}
use Prim.Native.Nat.{ℕ, ◌<◌}
use borrow.Author.Tests.{eqb-true, eq-eqb}
use lib.Dec.{eqb}
use lib.ListN.{length}
use Rattle.lists.specs.Sets.{In, Reach, from-seed, by-edge}
use Rattle.lists.proofs.Closure.{closure-sound, closure-seed, closure-closed}
use Rattle.graph_rules.specs.Graph.{Graph, state_of, leads, FromRoot, at-root, on_edge, reached_states}
use Rattle.graph_rules.proofs.Views.{edge-within, edge_leads, leads-edge}

module _ (g : Graph) where
  reach-from-root : (i : ℕ) → Reach (λ k u. leads (state_of g k) u) (length g.states) (eqb g.root) i → FromRoot g i
  reach-from-root i (from-seed h e) = subst (FromRoot g) (eqb-true g.root i e) at-root
  reach-from-root i (by-edge {k} r h e) = let (c, q) = leads-edge g k i e in on_edge (reach-from-root k r) c q

  pub computed-reached : (i : ℕ) → In (reached_states g) i → FromRoot g i
  unfolding reached_states
  computed-reached i h = reach-from-root i (closure-sound (λ k u. leads (state_of g k) u) (length g.states) (eqb g.root) i h)

  pub reached-computed : (i : ℕ) → i < length g.states → FromRoot g i → In (reached_states g) i
  unfolding reached_states
  reached-computed i h at-root =
      closure-seed (λ k u. leads (state_of g k) u) (length g.states) (eqb g.root) g.root h (eq-eqb g.root g.root refl)
  reached-computed i h (on_edge {s} r c e) =
      closure-closed (λ k u. leads (state_of g k) u) (length g.states) (eqb g.root) s i
      (reached-computed s (edge-within g s c i e) r) h (edge_leads g s c i e)
