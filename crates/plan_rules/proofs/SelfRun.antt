-- A byte that leads a state to itself may be passed before marks are read: what they record is recorded again. Assumes nothing.
use Rattle.std.specs.Prelude.{Option, Some, None}
use mathlib.Core.Path.{◌≡◌, refl, ap}
use mathlib.Core.List.{List, [], ◌∷◌}
use Prim.Native.Nat.{ℕ, suc}
use Rattle.graph_rules.specs.Layout.{end_step}
use Rattle.graph_rules.specs.Graph.{Graph, to, accept_of, early_of}
use Rattle.graph_rules.specs.Read.{Reading, mark, late, onward, walk, graph_walker}

pub mark-again : (early accept : Option ℕ) (k : ℕ) (r : Reading) → mark early accept (suc k) (mark early accept k r) ≡ mark early accept (suc k) r
mark-again (Some l) a k r = refl
mark-again None None k r = refl
mark-again None (Some l) k r = refl

-- the walk forgets the record of a state that it enters again with the next byte
pub walk-again : (g : Graph) (s k : ℕ) (r : Reading) (text : List ℕ)
    → walk (graph_walker g) s (suc k) (mark (early_of g s) (accept_of g s) k r) text ≡ walk (graph_walker g) s (suc k) r text
unfolding graph_walker
walk-again g s k r [] =
    ap (λ (q : Reading). onward q (λ u. late (accept_of g u) (suc (suc k)) q) (to g s end_step)) (mark-again (early_of g s) (accept_of g s) k r)
walk-again g s k r (b ∷ text) =
    ap (λ (q : Reading). onward q (λ u. walk (graph_walker g) u (suc (suc k)) q text) (to g s b)) (mark-again (early_of g s) (accept_of g s) k r)
