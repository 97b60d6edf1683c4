-- One class added to a store, by cases and bit by bit: what the call `add` answers, and what every bit of the store is after it. Assumes nothing.
use Rattle.std.specs.Prelude.{Ok, Err}
use mathlib.Core.Path.{◌≡◌, refl, sym, ap, ◌∙◌}
use mathlib.Core.Bool.{Bool, true, false, cond, not, ◌&&◌, ◌||◌}
use mathlib.Core.List.{[], ◌∷◌, ◌++◌}
use Prim.Native.Nat.{ℕ, ◌+◌, ◌≤◌, ◌<◌, ◌*◌}
use native.Mathlib.Numerals.{add-one}
use native.Mathlib.Omega.{arith}
use borrow.Author.Tests.{ltb-true, ltb-false, lt-ltb, le-ltb, le-leb, eq-eqb}
use lib.Dec.{eqb, leb, ltb}
use lib.ListN.{length, get_or, drop, length-append}
use lib.Seq.{drop_at}
use Rattle.lists.specs.Report.{reporting, refusing}
use Rattle.lists.proofs.Bools.{and_intro, Is, yes-is, no-is, is}
use Rattle.classes.specs.Classes.{Class, has}
use Rattle.mask_store.specs.declared.MaskStore.{MaskStore}
use Rattle.refusals.specs.declared.Refusal.TheVariants.{Store}
use Rattle.mask_store.specs.declared.Added.{Added}
use Rattle.bits.specs.Bits.{bit}
use Rattle.mask_store.specs.Layout.{store_size, most_masks, mask_of, entry_place}
use Rattle.mask_store.specs.Masks.{add, add_report, class_at, held, held_with, number_of, among, written, written_all, grown, store_of, allowed, takes, refused_with}
use Rattle.mask_store.proofs.Numbers.{number_at, number-most}
use Rattle.mask_store.proofs.Search.{allowed-count}
use Rattle.mask_store.proofs.MaskLaws.{length-held, held_at, length-written, class-own, class-other, bits-after, table-at}
use Rattle.mask_store.proofs.Growth.{whole, grown-none, grown-allowed}

-- ---- the four cases

module _ (s : MaskStore) (c : Class) where
  pub is_held : number_of (held s) c < s.count → among (held s) c ≡ true
  is_held h = lt-ltb (number_of (held s) c) (length (held s)) (omega (arith, length-held s))

  pub is-new : s.count ≤ number_of (held s) c → among (held s) c ≡ false
  is-new h = le-ltb (number_of (held s) c) (length (held s)) (omega (arith, length-held s))

  -- a new class takes the next number
  pub next-number : among (held s) c ≡ false → number_of (held s) c ≡ s.count
  next-number n = omega (arith, ltb-false (number_of (held s) c) (length (held s)) n, number-most (held s) c, length-held s)

  with-held : among (held s) c ≡ true → held_with s (c ∷ []) ≡ held s
  unfolding held_with
  with-held q = rw q

  with-new : among (held s) c ≡ false → held_with s (c ∷ []) ≡ held s ++ c ∷ []
  unfolding held_with
  with-new n = rw n

  length-new : among (held s) c ≡ false → length (held_with s (c ∷ [])) ≡ s.count + 1
  length-new n = ap length (with-new n) ∙ length-append (held s) (c ∷ []) ∙ ap (λ (k : ℕ). k + 1) (length-held s)

  pub grown-new : among (held s) c ≡ false → grown s (c ∷ []) ≡ store_of (written s.tables s.count c) (s.count + 1)
  unfolding grown
  grown-new n =
      let d : drop s.count (held_with s (c ∷ [])) ≡ c ∷ [] = ap (drop s.count) (with-new n) ∙ drop_at (held s) (c ∷ []) s.count (length-held s) in
      let p : written_all s.tables s.count (drop s.count (held_with s (c ∷ []))) ≡ written s.tables s.count c = ap (written_all s.tables s.count) d in
      λ i. record { tables = p i; count = length-new n i }

  pub grown-held : among (held s) c ≡ true → grown s (c ∷ []) ≡ s
  grown-held q = grown-none s (c ∷ []) (and_intro (among (held s) c) _ q refl)

  -- "with the classes needed that it lacks would pass 64", for one class
  pub takes_one : takes s (c ∷ []) ≡ (allowed s && (among (held s) c || ltb s.count 64))
  unfolding takes
  takes_one = go (is (allowed s)) (is (among (held s) c))
    where
      go : Is (allowed s) → Is (among (held s) c) → (allowed s && leb (length (held_with s (c ∷ []))) most_masks) ≡ (allowed s && (among (held s) c || ltb s.count most_masks))
      go (no-is n) q = rw n
      go (yes-is a) (yes-is q) =
          let few : s.count ≤ most_masks = allowed-count s a in
          rw (a, q) (le-leb (length (held_with s (c ∷ []))) most_masks (omega (arith, ap length (with-held q), length-held s)))
      go (yes-is a) (no-is n) = rw (a, n, length-new n, add-one s.count)

  -- a store that is not allowed
  pub add-not : allowed s ≡ false → add s c ≡ refused_with s
  unfolding add
  add-not n = rw (takes_one, n)

  -- a class that is held, also by a full store
  pub add-held : allowed s ≡ true → among (held s) c ≡ true → add s c ≡ record { answer = Ok (number_of (held s) c); store = s }
  unfolding add
  add-held a q = rw (takes_one, a, q, grown-held q)

  -- a new class, with room for it
  pub add-new : allowed s ≡ true → among (held s) c ≡ false → s.count < most_masks
      → add s c ≡ record { answer = Ok s.count; store = store_of (written s.tables s.count c) (s.count + 1) }
  unfolding add
  add-new a n h = rw (takes_one, a, n, lt-ltb s.count most_masks h, grown-new n, next-number n)

  -- and without
  pub add-full : allowed s ≡ true → among (held s) c ≡ false → most_masks ≤ s.count → add s c ≡ refused_with s
  unfolding add
  add-full a n h = rw (takes_one, a, n, le-ltb s.count most_masks h)

  -- the answer in numbers
  pub add-report : add_report (add s c).answer ≡ cond (takes s (c ∷ [])) (reporting (number_of (held s) c ∷ [])) (refusing 15 1)
  unfolding add
  add-report = go (takes s (c ∷ []))
    where
      go : (t : Bool) → add_report (cond {A = Added} t (record { answer = Ok (number_of (held s) c); store = grown s (c ∷ []) }) (record { answer = Err Store; store = s })).answer
          ≡ cond t (reporting (number_of (held s) c ∷ [])) (refusing 15 1)
      go true = refl
      go false = refl

  -- it is one of the four
  pub data Case : Type 0 where
    case-not : allowed s ≡ false → Case
    case-held : allowed s ≡ true → among (held s) c ≡ true → Case
    case-new : allowed s ≡ true → among (held s) c ≡ false → s.count < most_masks → Case
    case_full : allowed s ≡ true → among (held s) c ≡ false → most_masks ≤ s.count → Case

  pub which : Case
  which = go (is (allowed s)) (is (among (held s) c)) (is (ltb s.count most_masks))
    where
      go : Is (allowed s) → Is (among (held s) c) → Is (ltb s.count most_masks) → Case
      go (no-is n) q r = case-not n
      go (yes-is a) (yes-is q) r = case-held a q
      go (yes-is a) (no-is n) (yes-is r) = case-new a n (ltb-true _ _ r)
      go (yes-is a) (no-is n) (no-is r) = case_full a n (ltb-false _ _ r)

-- ---- the store after the call

module _ (s : MaskStore) (c : Class) (size : length s.tables ≡ 2048) (wide : length c ≡ 256) where
  -- the class is taken, and it is new
  abbrev pub grows : Bool
  grows = takes s (c ∷ []) && not (among (held s) c)

  pub add-size : length (add s c).store.tables ≡ store_size
  add-size = go (which s c)
    where
      go : Case s c → length (add s c).store.tables ≡ store_size
      go (case-not n) = rw (add-not s c n) size
      go (case-held a q) = rw (add-held s c a q) size
      go (case-new a n h) = rw (add-new s c a n h) (length-written s.tables s.count c size h)
      go (case_full a n h) = rw (add-full s c a n h) size

  -- a store that was allowed still is
  pub add-allowed : allowed s ≡ true → allowed (add s c).store ≡ true
  add-allowed a = go (which s c)
    where
      go : Case s c → allowed (add s c).store ≡ true
      go (case-not n) = rw (add-not s c n) a
      go (case-held a q) = rw (add-held s c a q) a
      go (case-new a n h) =
          rw (add-new s c a n h, ← grown-new s c n)
          (grown-allowed s (c ∷ []) size (and_intro (whole c) _ (eq-eqb (length c) 256 wide) refl) (omega (arith, length-new s c n)) a)
      go (case_full a n h) = rw (add-full s c a n h) a

  -- the count grows by one exactly if the class is taken and is new
  pub add-count : (add s c).store.count ≡ cond grows (s.count + 1) s.count
  add-count = go (which s c)
    where
      go : Case s c → (add s c).store.count ≡ cond grows (s.count + 1) s.count
      go (case-not n) = rw (add-not s c n, takes_one s c, n)
      go (case-held a q) = rw (add-held s c a q, takes_one s c, a, q)
      go (case-new a n h) = rw (add-new s c a n h, takes_one s c, a, n, lt-ltb s.count most_masks h)
      go (case_full a n h) = rw (add-full s c a n h, takes_one s c, a, n, le-ltb s.count most_masks h)

  -- Every bit of the store after the call: bit k of byte b of table t belongs to mask 8 t + k. Only if the class is taken and is new, and only in
  -- the mask that it becomes, a bit is written, and it is then the class's flag. Every other bit is unchanged, also those of masks that mean nothing.
  pub add-bits : (t b k : ℕ) → b < 256 → k < 8
      → bit (get_or (add s c).store.tables (256 * t + b) 0) k
      ≡ cond (grows && eqb (8 * t + k) s.count) (cond (has c b) 1 0) (bit (get_or s.tables (256 * t + b) 0) k)
  add-bits t b k hb hk = go (which s c)
    where
      go : Case s c → bit (get_or (add s c).store.tables (entry_place t b) 0) k
          ≡ cond (grows && eqb (mask_of t k) s.count) (cond (has c b) 1 0) (bit (get_or s.tables (entry_place t b) 0) k)
      go (case-not n) = rw (add-not s c n, takes_one s c, n)
      go (case-held a q) = rw (add-held s c a q, takes_one s c, a, q)
      go (case-new a n h) =
          rw (add-new s c a n h, takes_one s c, a, n, lt-ltb s.count most_masks h, ← table-at s.tables t b hb, ← table-at (written s.tables s.count c) t b hb)
          (bits-after s.tables s.count c size h wide t b k hb hk)
      go (case_full a n h) = rw (add-full s c a n h, takes_one s c, a, n, le-ltb s.count most_masks h)

  -- the class that was given has the number that is answered: an equal class kept it, a new one took the next
  pub added-own : (i : ℕ) → (add s c).answer ≡ Ok i → (i < (add s c).store.count) × (class_at (add s c).store.tables i ≡ c)
  added-own i e = go (which s c)
    where
      go : Case s c → (i < (add s c).store.count) × (class_at (add s c).store.tables i ≡ c)
      go (case-not n) = let z : ◌≡◌ {A = ℕ} 0 1 = cc (add-not s c n) in absurd (omega arith)
      go (case-held a q) =
          let l : number_of (held s) c < s.count = omega (arith, ltb-true (number_of (held s) c) (length (held s)) q, length-held s) in
          let here : number_of (held s) c ≡ i = cc (add-held s c a q) in
          rw (add-held s c a q, ← here) (l, sym (held_at s (number_of (held s) c) l) ∙ number_at (held s) c (omega (arith, length-held s)))
      go (case-new a n h) =
          let here : s.count ≡ i = cc (add-new s c a n h) in
          rw (add-new s c a n h, ← here) (omega arith, class-own s.tables s.count c size h wide)
      go (case_full a n h) = let z : ◌≡◌ {A = ℕ} 0 1 = cc (add-full s c a n h) in absurd (omega arith)

  -- and every class that was held has the number that it had
  pub added-other : (j : ℕ) → j < s.count → class_at (add s c).store.tables j ≡ class_at s.tables j
  added-other j l = go (which s c)
    where
      go : Case s c → class_at (add s c).store.tables j ≡ class_at s.tables j
      go (case-not n) = rw (add-not s c n)
      go (case-held a q) = rw (add-held s c a q)
      go (case-new a n h) = rw (add-new s c a n h) (class-other s.tables s.count c size h j (λ e. omega arith))
      go (case_full a n h) = rw (add-full s c a n h)
