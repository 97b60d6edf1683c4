-- The numbers in a set, one number more at a time, and the lists made of them: what a loop shows that goes over a set's members in order.
-- Assumes nothing.
use mathlib.Core.Path.{◌≡◌, refl, sym, ap, ◌∙◌}
use mathlib.Core.Bool.{Bool, true, false}
use mathlib.Core.List.{List, [], ◌∷◌, ◌++◌, map, flat_map, append-nil, append_assoc}
use Prim.Native.Nat.{ℕ, suc, ◌+◌, ◌<◌}
use native.Mathlib.Numerals.{add-one}
use native.Mathlib.Omega.{arith}
use lib.ListN.{length, get_or, take}
use lib.Seq.{take-suc, length-take-le}
use Rattle.lists.specs.Lists.{below, select}
use Rattle.lists.specs.Sets.{In, count}
use Rattle.lists.proofs.Elements.{length-tab}
use Rattle.lists.proofs.Those.{below_last}

module _ {A : Type 0} where
  pub select-append : (a b : List Bool) (l m : List A) → length a ≡ length l → select (a ++ b) (l ++ m) ≡ select a l ++ select b m
  select-append [] b [] m e = refl
  select-append [] b (x ∷ l) m e = absurd (omega arith)
  select-append (c ∷ a) b [] m e = absurd (omega arith)
  select-append (true ∷ a) b (x ∷ l) m e = ap {B = List A} (◌∷◌ x) (select-append a b l m (omega arith))
  select-append (false ∷ a) b (x ∷ l) m e = select-append a b l m (omega arith)

  pub select-count : (a : List Bool) (l : List A) → length a ≡ length l → length (select a l) ≡ count a
  select-count [] l e = refl
  select-count (c ∷ a) [] e = absurd (omega arith)
  select-count (true ∷ a) (x ∷ l) e = ap suc (select-count a l (omega arith))
  select-count (false ∷ a) (x ∷ l) e = select-count a l (omega arith)

module _ {A B : Type 0} (f : A → B) where
  pub select-map : (a : List Bool) (l : List A) → select a (map f l) ≡ map f (select a l)
  select-map [] l = refl
  select-map (c ∷ a) [] = refl
  select-map (true ∷ a) (x ∷ l) = ap {B = List B} (◌∷◌ (f x)) (select-map a l)
  select-map (false ∷ a) (x ∷ l) = select-map a l

-- the members below s, ascending
abbrev pub members : List Bool → ℕ → List ℕ
members set s = select (take s set) (below s)

module _ (set : List Bool) (s : ℕ) (h : s < length set) where
  lengths : length (take s set) ≡ length (below s)
  lengths = length-take-le s set (omega arith) ∙ sym (length-tab 0 s (λ x. x))

  members-next : members set (s + 1) ≡ members set s ++ select (get_or set s false ∷ []) (s ∷ [])
  members-next =
      let more : take (s + 1) set ≡ take s set ++ (get_or set s false ∷ []) = rw add-one (take-suc set s false h) in
      ap (λ (l : List Bool). select l (below (s + 1))) more
      ∙ ap (select (take s set ++ (get_or set s false ∷ []))) (below_last s)
      ∙ select-append (take s set) (get_or set s false ∷ []) (below s) (s ∷ []) lengths

  pub members-in : In set s → members set (s + 1) ≡ members set s ++ (s ∷ [])
  members-in i = members-next ∙ ap (λ (b : Bool). members set s ++ select (b ∷ []) (s ∷ [])) i

  pub members-out : get_or set s false ≡ false → members set (s + 1) ≡ members set s
  members-out i = members-next ∙ ap (λ (b : Bool). members set s ++ select (b ∷ []) (s ∷ [])) i ∙ append-nil (members set s)

-- ---- lists made of each element, one after another

module _ {A B : Type 0} (f : A → List B) where
  pub flat_map-append : (a b : List A) → flat_map f (a ++ b) ≡ flat_map f a ++ flat_map f b
  unfolding flat_map
  flat_map-append [] b = refl
  flat_map-append (x ∷ a) b = ap (λ (l : List B). f x ++ l) (flat_map-append a b) ∙ sym (append_assoc (f x) (flat_map f a) (flat_map f b))

  pub flat_map-one : (a : List A) (x : A) → flat_map f (a ++ (x ∷ [])) ≡ flat_map f a ++ f x
  unfolding flat_map
  flat_map-one a x = flat_map-append a (x ∷ []) ∙ ap (λ (l : List B). flat_map f a ++ l) (append-nil (f x))

pub flat_map-map : {A B C : Type 0} (f : B → List C) (g : A → B) (l : List A) → flat_map f (map g l) ≡ flat_map (λ x. f (g x)) l
unfolding flat_map
flat_map-map f g [] = refl
flat_map-map {C = C} f g (x ∷ l) = ap (λ (r : List C). f (g x) ++ r) (flat_map-map f g l)
