-- Every bit of the store after planning: masks that were held keep their bits, new ones are the classes that the graph needs, and every other bit is
-- unchanged. Where planning is refused the count stays, so no bit changes. Assumes nothing.
use mathlib.Core.Path.{◌≡◌}
use mathlib.Core.Bool.{true, false, cond, ◌&&◌}
use mathlib.Core.List.{List, []}
use Prim.Native.Nat.{ℕ, ◌≤◌, ◌<◌, ◌*◌, ◌+◌}
use borrow.Author.Tests.{leb-true, le-ltb}
use lib.Dec.{leb, ltb}
use lib.ListN.{length, get_or}
use Rattle.lists.proofs.Bools.{Is, yes-is, no-is, is}
use Rattle.bits.specs.Bits.{bit}
use Rattle.graph_rules.specs.Graph.{graph_from, graph_fits}
use Rattle.classes.specs.Classes.{has}
use Rattle.mask_store.specs.declared.MaskStore.{MaskStore}
use Rattle.mask_store.specs.Layout.{mask_of, entry_place}
use Rattle.mask_store.specs.Masks.{held_with, takes, grown}
use Rattle.mask_store.proofs.GrownBits.{grown-bits}
use Rattle.mask_store.proofs.Several.{takes-few}
use Rattle.plan_rules.specs.Plan.{Settings, needs, plan_size}
use Rattle.plan_rules.proofs.OwnStore.{needs-whole}
use Rattle.planning.specs.Plan.{plan_call}

-- in a range of no numbers nothing is
none_between : (n i : ℕ) → (leb n i && ltb i n) ≡ false
none_between n i = go (is (leb n i))
  where
    go : Is (leb n i) → (leb n i && ltb i n) ≡ false
    go (no-is q) = rw q
    go (yes-is q) = let l : n ≤ i = leb-true _ _ q in rw q (le-ltb i n l)

-- the store that planning leaves: grown where it is answered, unchanged where it is refused
pub data Left (set : Settings) (graph : List ℕ) (store : MaskStore) : MaskStore → Type 0 where
  unchanged : Left set graph store store
  has-grown : graph_fits graph ≡ true → takes store (needs set (graph_from graph)) ≡ true → Left set graph store (grown store (needs set (graph_from graph)))

pub left_by : (set : Settings) (graph buffer : List ℕ) (store : MaskStore) → Left set graph store (plan_call set graph buffer store).planning.store
unfolding plan_call
left_by set graph buffer store =
    go (is (graph_fits graph)) (is (ltb (length buffer) (plan_size set (graph_from graph)))) (is (takes store (needs set (graph_from graph))))
  where
    go : Is (graph_fits graph) → Is (ltb (length buffer) (plan_size set (graph_from graph))) → Is (takes store (needs set (graph_from graph)))
        → Left set graph store (plan_call set graph buffer store).planning.store
    go (no-is a) x y = rw (a, plan_call) unchanged
    go (yes-is a) (yes-is x) y = rw (a, x, plan_call) unchanged
    go (yes-is a) (no-is x) (no-is y) = rw (a, x, y, plan_call) unchanged
    go (yes-is a) (no-is x) (yes-is y) = rw (a, x, y, plan_call) (has-grown a y)

-- bit k of byte b of table t belongs to mask 8 t + k
module _ (set : Settings) (graph : List ℕ) (store : MaskStore) (size : length store.tables ≡ 2048) (t b k : ℕ) (byte : b < 256) (one : k < 8) where
  left-bits : (after : MaskStore) → Left set graph store after
      → bit (get_or after.tables (entry_place t b) 0) k
      ≡ cond (leb store.count (mask_of t k) && ltb (mask_of t k) after.count) (cond (has (get_or (held_with store (needs set (graph_from graph))) (mask_of t k) []) b) 1 0)
      (bit (get_or store.tables (entry_place t b) 0) k)
  left-bits after unchanged = rw (none_between store.count (mask_of t k))
  left-bits after (has-grown a y) =
      grown-bits store (needs set (graph_from graph)) size (needs-whole set graph a) (takes-few store (needs set (graph_from graph)) y) t b k byte one

  pub plan-bits : (buffer : List ℕ)
      → bit (get_or (plan_call set graph buffer store).planning.store.tables (256 * t + b) 0) k
      ≡ cond (leb store.count (8 * t + k) && ltb (8 * t + k) (plan_call set graph buffer store).planning.store.count)
      (cond (has (get_or (held_with store (needs set (graph_from graph))) (8 * t + k) []) b) 1 0)
      (bit (get_or store.tables (256 * t + b) 0) k)
  plan-bits buffer = left-bits (plan_call set graph buffer store).planning.store (left_by set graph buffer store)
