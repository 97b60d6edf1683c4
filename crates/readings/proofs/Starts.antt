-- Where a graph's walk starts, and a table's edges, by the words. Assumes nothing.
use Rattle.std.specs.Prelude.{None, Some}
use mathlib.Core.Path.{◌≡◌, refl, ap}
use mathlib.Core.Bool.{Bool, true, cond}
use mathlib.Core.List.{List}
use mathlib.Core.Logic.{⊎_elim}
use Prim.Native.Nat.{ℕ, zero, suc, ◌<◌}
use native.Mathlib.Omega.{arith}
use borrow.Author.Tests.{ne_eqb}
use lib.ListN.{get_or}
use Rattle.graph_rules.specs.Graph.{graph_from, graph_fits, or_none}
use Rattle.graph_rules.specs.Build.{edge}
use Rattle.graph_rules.specs.Read.{read_graph}
use Rattle.graph_rules.proofs.Views.{out-quiet}
use Rattle.graph_rules.proofs.Taken.{taken-root}
use Rattle.graph_rules.proofs.Flat.{from-length}

-- a table's edge, by the number that no target has
pub edge-is : (s : ℕ) → or_none 0 s ≡ edge s
edge-is zero = refl
edge-is (suc u) = ap (λ (b : Bool). cond b None (Some (suc u))) (ne_eqb (suc u) 0 (λ e. let z : suc u ≡ 0 = e in omega arith))

module _ (g : List ℕ) (fits : graph_fits g ≡ true) where
  pub no-states : (text : List ℕ) → get_or g 0 0 ≡ 0 → read_graph (graph_from g) text ≡ None
  unfolding read_graph
  no-states text e = (out-quiet (graph_from g) (graph_from g).root (let l = from-length g in omega arith)).mute 0 None text

  pub root_below : (get_or g 0 0 ≡ 0 → ⊥) → get_or g 1 0 < get_or g 0 0
  root_below n = ⊎_elim (λ h. h) (λ h. absurd (n h.0)) (taken-root g fits)
