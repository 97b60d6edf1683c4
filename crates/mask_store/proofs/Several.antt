-- Several classes added one after another, as planning adds them: what 15 says of all of them is what the additions answer. Assumes nothing.
use mathlib.Core.Path.{◌≡◌, sym, ap, ◌∙◌}
use mathlib.Core.Bool.{true}
use mathlib.Core.List.{List, ◌++◌}
use Prim.Native.Nat.{◌≤◌}
use native.Mathlib.Omega.{arith}
use borrow.Author.Tests.{le-leb, leb-true}
use lib.ListN.{length, length-append}
use Rattle.lists.specs.Lists.{all_l}
use Rattle.lists.proofs.Bools.{and_both, and_intro}
use Rattle.classes.specs.Classes.{Class}
use Rattle.mask_store.specs.declared.MaskStore.{MaskStore}
use Rattle.mask_store.specs.Layout.{store_size, most_masks}
use Rattle.mask_store.specs.Masks.{held, held_with, met, grown, allowed, takes}
use Rattle.mask_store.proofs.Numbers.{met-append, met-split}
use Rattle.mask_store.proofs.Search.{allowed-count}
use Rattle.mask_store.proofs.Growth.{whole, held_grown, grown-allowed}

-- the classes that a store then holds are few enough, and so are those that it holds
pub takes-few : (s : MaskStore) (cs : List Class) → takes s cs ≡ true → length (held_with s cs) ≤ most_masks
unfolding takes
takes-few s cs t = leb-true _ _ (and_both (allowed s) _ t).1

pub count-few : (s : MaskStore) (cs : List Class) → takes s cs ≡ true → s.count ≤ most_masks
unfolding takes
count-few s cs t = allowed-count s (and_both (allowed s) _ t).0

-- a store that takes some classes and more takes the first of them
pub takes_front : (s : MaskStore) (a b : List Class) → takes s (a ++ b) ≡ true → takes s a ≡ true
unfolding takes held_with
takes_front s a b t =
    let (m, e) = met-split (met (held s) a) b in
    let w : length (met (held s) (a ++ b)) ≤ most_masks = takes-few s (a ++ b) t in
    let few : length (met (held s) a) ≤ most_masks = omega (arith, ap length (met-append (held s) a b ∙ e), length-append (met (held s) a) m) in
    and_intro (allowed s) _ (and_both (allowed s) _ t).0 (le-leb (length (met (held s) a)) most_masks few)

module _ (s : MaskStore) (a : List Class) (size : length s.tables ≡ store_size) (wide : all_l whole a ≡ true) (t : takes s a ≡ true) where
  -- the store that has grown by them is one that is added to without a check
  pub takes-allowed : allowed (grown s a) ≡ true
  unfolding takes
  takes-allowed = grown-allowed s a size wide (takes-few s a t) (and_both (allowed s) _ t).0

  held_then : (b : List Class) → held_with (grown s a) b ≡ held_with s (a ++ b)
  unfolding held_with
  held_then b = ap (λ (l : List Class). met l b) (held_grown s a size wide (takes-few s a t)) ∙ sym (met-append (held s) a b)

  -- and takes what is left exactly if the store takes all
  pub takes-rest : (b : List Class) → takes (grown s a) b ≡ takes s (a ++ b)
  unfolding takes
  takes-rest b = rw (takes-allowed, (and_both (allowed s) _ t).0, held_then b)
