-- The views of a graph: a number that no state has, and edges. Assumes nothing.
use Rattle.std.specs.Prelude.{Some, None}
use mathlib.Core.Path.{◌≡◌, sym, ap, ◌∙◌}
use mathlib.Core.Bool.{true}
use mathlib.Core.Logic.{⊎_elim}
use Prim.Native.Nat.{ℕ, ◌≤◌, ◌<◌}
use lib.ListN.{length, get_or, get_or-eq_default}
use Rattle.lists.proofs.Any.{option-any, any-option}
use Rattle.lists.proofs.Bools.{none-some, lt-or-le}
use Rattle.graph_rules.specs.Graph.{State, Graph, blank, state_of, to, accept_of, early_of, leads}
use Rattle.graph_rules.specs.Read.{graph_walker}
use Rattle.graph_rules.proofs.Walks.{Quiet, graph-quiet}

-- ---- a number that no state has

module _ (g : Graph) (s : ℕ) (out : length g.states ≤ s) where
  pub out-blank : state_of g s ≡ blank
  unfolding state_of
  out-blank = get_or-eq_default g.states blank out

  pub out-accept : accept_of g s ≡ None
  unfolding accept_of
  out-accept = ap (λ (x : State). x.accept) out-blank

  pub out-early : early_of g s ≡ None
  unfolding early_of
  out-early = ap (λ (x : State). x.early) out-blank

  pub out-to : (c : ℕ) → to g s c ≡ None
  unfolding to
  out-to c = ap (λ (x : State). get_or x.steps c None) out-blank

pub out-quiet : (g : Graph) (s : ℕ) → length g.states ≤ s → Quiet (graph_walker g) s
out-quiet g = graph-quiet g (λ s. length g.states ≤ s) (out-accept g) (out-early g) (λ s c u h e. absurd (none-some (sym (out-to g s h c) ∙ e)))

pub edge-within : (g : Graph) (s c u : ℕ) → to g s c ≡ Some u → s < length g.states
edge-within g s c u e = ⊎_elim (λ h. h) (λ h. absurd (none-some (sym (out-to g s h c) ∙ e))) (lt-or-le s (length g.states))

-- ---- an edge, as a number in the row

pub edge_leads : (g : Graph) (s c u : ℕ) → to g s c ≡ Some u → leads (state_of g s) u ≡ true
unfolding to leads
edge_leads g s c u e = option-any (state_of g s).steps c u e

pub leads-edge : (g : Graph) (s u : ℕ) → leads (state_of g s) u ≡ true → (c : ℕ) × (to g s c ≡ Some u)
unfolding to leads
leads-edge g s u h = any-option (state_of g s).steps u h
