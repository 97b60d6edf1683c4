-- What `holds_plan` means, both ways: each class that the graph needs a mask for is, in the other store, the mask of the number that the plan gives it.
-- Nothing is said of the other store's other masks, nor of how many it has. Assumes nothing.
use mathlib.Core.Path.{◌≡◌, ap, ◌∙◌}
use mathlib.Core.Bool.{Bool, true, ◌&&◌}
use mathlib.Core.List.{List, []}
use Prim.Native.Nat.{ℕ, ◌<◌}
use borrow.Author.Tests.{ltb-true, lt-ltb}
use lib.Dec.{ltb}
use lib.ListN.{length, get_or}
use Rattle.lists.proofs.Bools.{and_both, and_intro}
use Rattle.lists.proofs.Elements.{all-at, all-intro}
use Rattle.graph_rules.specs.Graph.{Graph}
use Rattle.classes.specs.Classes.{Class}
use Rattle.mask_store.specs.declared.MaskStore.{MaskStore}
use Rattle.mask_store.specs.Masks.{class_at, same_class, number_of, held_with}
use Rattle.mask_store.proofs.Numbers.{same-eq, same_self}
use Rattle.plan_rules.specs.Plan.{Settings, needs, holds_plan}

-- class c is held under its number among the classes `all`: that number is below the store's count, and the mask of that number has the flags of c
pub record HeldAs (all : List Class) (other : MaskStore) (c : Class) : Type 0 where
  pub below-count : number_of all c < other.count
  pub same-mask : class_at other.tables (number_of all c) ≡ c

module _ (set : Settings) (g : Graph) (store other : MaskStore) where
  -- the classes of the plan, in the order of the numbers that it gives them
  abbrev pub numbered : List Class
  numbered = held_with store (needs set g)

  abbrev holds_one : Class → Bool
  holds_one c = ltb (number_of numbered c) other.count && same_class (class_at other.tables (number_of numbered c)) c

  pub holds-shown : ((j : ℕ) → j < length (needs set g) → HeldAs numbered other (get_or (needs set g) j [])) → holds_plan set g store other ≡ true
  unfolding holds_plan
  holds-shown f = all-intro holds_one (needs set g) [] (λ j l. one (get_or (needs set g) j []) (f j l))
    where
      one : (c : Class) → HeldAs numbered other c → holds_one c ≡ true
      one c h =
          and_intro (ltb (number_of numbered c) other.count) _ (lt-ltb _ _ h.below-count)
          (ap (λ (d : Class). same_class d c) h.same-mask ∙ same_self c)

  pub holds-means : holds_plan set g store other ≡ true → (j : ℕ) → j < length (needs set g) → HeldAs numbered other (get_or (needs set g) j [])
  unfolding holds_plan
  holds-means h j l =
      let q = and_both (ltb (number_of numbered (get_or (needs set g) j [])) other.count) _ (all-at holds_one (needs set g) j [] h l) in
      record { below-count = ltb-true _ _ q.0; same-mask = same-eq _ _ q.1 }
