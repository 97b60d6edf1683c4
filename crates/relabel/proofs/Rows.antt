-- A target word, renamed. Assumes nothing.
use Rattle.std.specs.Prelude.{Option, unwrap_or}
use mathlib.Core.Path.{◌≡◌}
use mathlib.Core.List.{List}
use Prim.Native.Nat.{ℕ}
use lib.Dec.{eqb}
use Rattle.lists.proofs.Bools.{Is, is, yes-is, no-is}
use Rattle.graph_rules.specs.Layout.{no_state}
use Rattle.graph_rules.specs.Graph.{or_none}
use Rattle.graph_rules.proofs.Rename.{led}
use Rattle.relabel.specs.Names.{renamed_word}

-- a target word is renamed as its edge is
pub renamed-is : (names : List (Option ℕ)) (u : ℕ) → renamed_word names u ≡ unwrap_or (led names (or_none no_state u)) no_state
renamed-is names u = go (is (eqb u no_state))
  where
    go : Is (eqb u no_state) → renamed_word names u ≡ unwrap_or (led names (or_none no_state u)) no_state
    go (yes-is q) = rw q
    go (no-is q) = rw q
