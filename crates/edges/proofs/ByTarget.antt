-- The edges of a state by target: each byte is in the class of its own target and of no other, and the targets are the states that a byte leads
-- to, ascending. Assumes nothing.
use Rattle.std.specs.Prelude.{Some, None}
use mathlib.Core.Path.{◌≡◌, ap, ◌∙◌}
use mathlib.Core.Bool.{Bool, true, false}
use mathlib.Core.List.{List}
use Prim.Native.Nat.{ℕ, ◌≤◌, ◌<◌}
use lib.Dec.{eqb}
use lib.ListN.{length, get_or, get_or-map, length-map}
use lib.Seq.{length-take-le}
use Rattle.lists.specs.Lists.{tab, below, any_l, eq_option}
use Rattle.lists.proofs.Any.{option-any}
use Rattle.lists.proofs.Elements.{get_or-tab0}
use Rattle.lists.proofs.Rising.{Rising, rising-those, rising-below}
use Rattle.lists.proofs.Those.{any-those}
use Rattle.classes.specs.Classes.{has}
use Rattle.graph_rules.specs.Graph.{State}
use Rattle.edges.specs.Edges.{bytes_of, class_to, leads_to, targets}
use Rattle.graph_rules.specs.Layout.{most_states}

module _ (st : State) where
  pub class-flag : (u b : ℕ) → has (class_to st u) b ≡ eq_option (Some u) (get_or (bytes_of st) b None)
  unfolding class_to
  class-flag u b = get_or-map (eq_option (Some u)) (bytes_of st) b None

  -- a class has 256 flags
  pub class-whole : 256 ≤ length st.steps → (u : ℕ) → length (class_to st u) ≡ 256
  unfolding class_to
  class-whole h u = length-map (bytes_of st) (eq_option (Some u)) ∙ length-take-le 256 st.steps h

  -- where a byte leads, an edge leads
  pub byte-leads : (b u : ℕ) → get_or (bytes_of st) b None ≡ Some u → leads_to st u ≡ true
  unfolding leads_to
  byte-leads b u e = option-any (bytes_of st) b u e

  -- of the states, those are targets that an edge leads to: with u the state itself, whether it has a self edge
  pub target-leads : (n u : ℕ) → u < n → any_l (eqb u) (targets n st) ≡ leads_to st u
  unfolding targets
  target-leads n u h = any-those (leads_to st) u n h

  pub targets-ascend : (n : ℕ) → Rising (targets n st)
  unfolding targets
  targets-ascend n = rising-those (leads_to st) (below n) (rising-below n)

  -- the flag of a state, where the flags are those of the states that edges lead to
  pub target-flag : {flags : List Bool} → flags ≡ tab 0 most_states (leads_to st) → (u : ℕ) → u < most_states → get_or flags u false ≡ leads_to st u
  target-flag e u h = ap (λ (l : List Bool). get_or l u false) e ∙ get_or-tab0 most_states (leads_to st) u false h
