-- A store grown by some classes, then by more: what is taken, and what is refused. Assumes nothing.
use Rattle.std.proofs.Common.{◌≡◌, refl, sym, ap, ◌∙◌, true, false, cond, List, [], ◌∷◌, ◌++◌, ℕ, arith, le-leb, length, Result, Ok, Err, IsErrAnd}
use Rattle.std.proofs.lemmas.Result.{err_from_is_err_and}
use Rattle.lists.specs.Lists.{all_l}
use Rattle.lists.proofs.Bools.{Is, is, yes-is, no-is, and_intro}
use Rattle.refusals.specs.declared.Refusal.{Refusal}
use Rattle.refusals.specs.declared.Refusal.TheVariants.{Store}
use Rattle.classes.specs.Classes.{Class}
use Rattle.mask_store.specs.declared.MaskStore.{MaskStore}
use Rattle.mask_store.specs.declared.Added.{Added}
use Rattle.mask_store.specs.Layout.{store_size, most_masks}
use Rattle.mask_store.specs.Masks.{held, number_of, grown, allowed, takes, held_with, add, refused_with}
use Rattle.mask_store.proofs.MaskLaws.{length-held}
use Rattle.mask_store.proofs.Search.{allowed-count}
use Rattle.mask_store.proofs.Growth.{whole, grown-none, grown-append}
use Rattle.mask_store.proofs.Several.{takes-few, takes_front, takes-rest}
use Rattle.plan_rows.specs.Needs.{grown_by}

-- ---- what a `?` hands on

pub passed-on : {A : Type 0} (r : Result A Refusal) {x : Refusal} → IsErrAnd r (λ y. y ≡ x) → r ≡ Err x
passed-on r h = let p = err_from_is_err_and r h in p.1 ∙ ap (λ y. Err y) p.2

-- ---- taken, or refused

module _ (store : MaskStore) (cs : List Class) where
  pub by-taken : takes store cs ≡ true → grown_by store cs ≡ Ok (grown store cs)
  unfolding grown_by
  by-taken t = rw t

  pub by-refused : takes store cs ≡ false → grown_by store cs ≡ Err Store
  unfolding grown_by
  by-refused t = rw t

  -- what a growth tells
  pub was-taken : {m : MaskStore} → grown_by store cs ≡ Ok m → takes store cs ≡ true
  was-taken {m} e = go (is (takes store cs))
    where
      go : Is (takes store cs) → takes store cs ≡ true
      go (yes-is t) = t
      go (no-is t) = cc (by-refused t)

  pub store-grown : {m : MaskStore} → grown_by store cs ≡ Ok m → m ≡ grown store cs
  store-grown e = cc (by-taken (was-taken e))

  pub was-refused : {x : Refusal} → grown_by store cs ≡ Err x → takes store cs ≡ false
  was-refused {x} e = go (is (takes store cs))
    where
      go : Is (takes store cs) → takes store cs ≡ false
      go (yes-is t) = cc (by-taken t)
      go (no-is t) = t

-- no classes
takes_none : (store : MaskStore) → allowed store ≡ true → takes store [] ≡ true
unfolding takes held_with
takes_none store a = and_intro (allowed store) _ a (le-leb (length (held store)) most_masks (omega (arith, length-held store, allowed-count store a)))

pub by-none : (store : MaskStore) → allowed store ≡ true → Ok store ≡ grown_by store []
by-none store a = ap (λ (m : MaskStore). Ok m) (sym (grown-none store [] refl)) ∙ sym (by-taken store [] (takes_none store a))

-- a store that is not allowed
pub by-not : (store : MaskStore) (cs : List Class) → allowed store ≡ false → Err Store ≡ grown_by store cs
unfolding takes
by-not store cs a = sym (by-refused store cs (rw a))

-- what is refused is refused with more
pub grown-stops : (store : MaskStore) (a b : List Class) {x : Refusal} → grown_by store a ≡ Err x → Err x ≡ grown_by store (a ++ b)
grown-stops store a b {x} e = go (is (takes store (a ++ b)))
  where
    go : Is (takes store (a ++ b)) → Err x ≡ grown_by store (a ++ b)
    go (yes-is q) = cc (takes_front store a b q, was-refused store a e)
    go (no-is q) = cc (by-refused store a (was-refused store a e), by-refused store (a ++ b) q)

-- ---- one class, as the store's own call adds it

module _ (store : MaskStore) (c : Class) where
  add-taken : takes store (c ∷ []) ≡ true → add store c ≡ record { answer = Ok (number_of (held store) c); store = grown store (c ∷ []) }
  unfolding add
  add-taken t = rw t

  add-refused : takes store (c ∷ []) ≡ false → add store c ≡ refused_with store
  unfolding add
  add-refused t = rw t

  pub by_number : {i : ℕ} → (add store c).answer ≡ Ok i → grown_by store (c ∷ []) ≡ Ok (add store c).store
  by_number {i} n = go (is (takes store (c ∷ [])))
    where
      go : Is (takes store (c ∷ [])) → grown_by store (c ∷ []) ≡ Ok (add store c).store
      go (yes-is t) = by-taken store (c ∷ []) t ∙ ap (λ (x : Added). Ok x.store) (sym (add-taken t))
      go (no-is t) = cc (add-refused t)

  pub by-refusal : {x : Refusal} → (add store c).answer ≡ Err x → grown_by store (c ∷ []) ≡ Err x
  by-refusal {x} n = go (is (takes store (c ∷ [])))
    where
      go : Is (takes store (c ∷ [])) → grown_by store (c ∷ []) ≡ Err x
      go (yes-is t) = cc (add-taken t)
      go (no-is t) = cc (add-refused t, by-refused store (c ∷ []) t)

-- ---- by more classes, after some

module _ (store : MaskStore) (a : List Class) (size : length store.tables ≡ store_size) (wide : all_l whole a ≡ true) {now : MaskStore} (e : grown_by store a ≡ Ok now) where
  pub grown-more : (b : List Class) → grown_by now b ≡ grown_by store (a ++ b)
  unfolding grown_by
  grown-more b =
      let t = was-taken store a e in
      let k : takes now b ≡ takes store (a ++ b) = ap (λ (m : MaskStore). takes m b) (store-grown store a e) ∙ takes-rest store a size wide t b in
      let z : grown now b ≡ grown store (a ++ b) =
      ap (λ (m : MaskStore). grown m b) (store-grown store a e) ∙ sym (grown-append store a b size wide (takes-few store a t))
      in
      λ i. cond (k i) (Ok (z i)) (Err Store)
