-- The pass over the flags that finds the maximal ranges. At byte b the ranges that end before `start` are stored, and every byte from `start`
-- up to b is in the class. Assumes nothing.
use mathlib.Core.Path.{◌≡◌, refl, sym, ap, ◌∙◌}
use mathlib.Core.Bool.{Bool, true, false}
use mathlib.Core.List.{List, [], ◌∷◌, ◌++◌, append-nil}
use Prim.Native.Nat.{ℕ, zero, suc, ◌+◌, ◌-◌, ◌≤◌, ◌<◌}
use native.Mathlib.Numerals.{add-one}
use native.Mathlib.Omega.{arith}
use lib.ListN.{length, drop, set, replicate, length-append, drop_of_length-le}
use lib.Seq.{drop-cons, append_snoc}
use Rattle.classes.specs.Classes.{Class, has, Range, ranges_from, ranges}
use Rattle.classes.specs.ClassAnswers.{no_range, row, as_byte_class}
use Rattle.classes.specs.declared.byte_class.ByteClass.{ByteClass}
use Rattle.classes.proofs.Ranges.{run-gap, run_end}
use Rattle.classes.proofs.Rows.{row-none, row-push}

-- ---- ranges stored in an array

pub record Stored (rs : List Range) (held : List Range) (count : ℕ) : Type 0 where
  pub counted : count ≡ length rs
  pub laid : held ≡ row no_range rs

stored-none : Stored [] (replicate 128 no_range) 0
stored-none = record { counted = refl; laid = sym (row-none no_range) }

stored_more : {rs held : List Range} {count : ℕ} (r : Range) → count < 128 → Stored rs held count
    → Stored (rs ++ r ∷ []) (set held count r) (count + 1)
stored_more {rs} {held} {count} r h s =
    let e = s.counted in
    record {
      counted = simp length-append (omega arith);
      laid = rw (s.laid, e) (row-push no_range rs r (omega arith));
    }

stored-whole : {rs held : List Range} {count : ℕ} → Stored rs held count → ◌≡◌ {A = ByteClass} (record { ranges = held; count = count }) (as_byte_class rs)
unfolding as_byte_class
stored-whole s = rw (s.counted, s.laid)

-- ---- the pass

pub record Pass (c : Class) (held : List Range) (count start b : ℕ) : Type 0 where
  pub done : List Range
  pub stored : Stored done held count
  pub whole : done ++ ranges_from start (drop start c) ≡ ranges c
  pub run : drop start c ≡ replicate (b - start) true ++ drop b c
  pub begun : start ≤ b
  pub spare : count + count ≤ start

pub pass-none : (c : Class) → Pass c (replicate 128 no_range) 0 0 0
unfolding ranges
pass-none c = record { done = []; stored = stored-none; whole = refl; run = refl; begun = omega arith; spare = omega arith }

one-longer : (k : ℕ) (l : List Bool) → replicate k true ++ (true ∷ l) ≡ replicate (suc k) true ++ l
one-longer zero l = refl
one-longer (suc k) l = ap (λ (t : List Bool). true ∷ t) (one-longer k l)

module _ (c : Class) (b : ℕ) (inside : b < length c) where
  ahead : (f : Bool) → has c b ≡ f → drop b c ≡ f ∷ drop (suc b) c
  ahead f e = rw (← e) (drop-cons c b false inside)

  module _ {held : List Range} {count start : ℕ} where
    -- a byte of the class lengthens the run
    pub pass-in : has c b ≡ true → Pass c held count start b → Pass c held count start (b + 1)
    pass-in e p =
        let k : b + 1 - start ≡ suc (b - start) = omega (arith, p.begun) in
        record {
          done = p.done;
          stored = p.stored;
          whole = p.whole;
          run = p.run ∙ rw (k, add-one b, ahead true e) (one-longer (b - start) (drop (suc b) c));
          begun = omega (arith, p.begun);
          spare = p.spare;
        }

    -- a byte that is not of the class, with no run before it
    pub pass-out : has c b ≡ false → b ≤ start → Pass c held count start b → Pass c held count (b + 1) (b + 1)
    pass-out e h p =
        let s : start ≡ b = omega (arith, p.begun) in
        let z : b + 1 - (b + 1) ≡ 0 = omega arith in
        record {
          done = p.done;
          stored = p.stored;
          whole = rw (← p.whole, s, add-one b, ahead false e);
          run = rw z;
          begun = omega arith;
          spare = omega (arith, p.spare);
        }

    -- and one that ends a run: the run is a range
    pub pass-close : has c b ≡ false → start < b → count < 128 → Pass c held count start b
        → Pass c (set held count (record { first = start; last = b - 1 })) (count + 1) (b + 1) (b + 1)
    pass-close e h room p =
        let m : ℕ = b - 1 - start in
        let k : b - start ≡ suc m = omega arith in
        let l : start + m ≡ b - 1 = omega arith in
        let n : suc (suc (b - 1)) ≡ b + 1 = omega arith in
        let z : b + 1 - (b + 1) ≡ 0 = omega arith in
        let n' : suc b ≡ b + 1 = omega arith in
        let r : ranges_from start (drop start c) ≡ record { first = start; last = b - 1 } ∷ ranges_from (b + 1) (drop (b + 1) c)
        = rw (p.run, k, ahead false e, run-gap start m (drop (suc b) c), l, n, n') in
        record {
          done = p.done ++ record { first = start; last = b - 1 } ∷ [];
          stored = stored_more (record { first = start; last = b - 1 }) room p.stored;
          whole = append_snoc p.done (record { first = start; last = b - 1 }) (ranges_from (b + 1) (drop (b + 1) c)) ∙ rw (← r) p.whole;
          run = rw z;
          begun = omega arith;
          spare = omega (arith, p.spare);
        }

-- ---- after the last byte

module _ (c : Class) (wide : length c ≡ 256) where
  past : drop 256 c ≡ []
  past = let h : length c ≤ 256 = omega arith in drop_of_length-le c h

  module _ {held : List Range} {count start : ℕ} where
    pub pass-last : start < 256 → Pass c held count start 256
        → ◌≡◌ {A = ByteClass} (record { ranges = set held count (record { first = start; last = 255 }); count = count + 1 }) (as_byte_class (ranges c))
    pass-last h p =
        let m : ℕ = 255 - start in
        let k : 256 - start ≡ suc m = omega arith in
        let l : start + m ≡ 255 = omega arith in
        let d : drop start c ≡ replicate (suc m) true = p.run ∙ rw (past, k) (append-nil (replicate (suc m) true)) in
        let r : ranges_from start (drop start c) ≡ record { first = start; last = 255 } ∷ [] = rw (d, run_end start m, l) in
        stored-whole (stored_more (record { first = start; last = 255 }) (omega (arith, p.spare)) p.stored) ∙ ap as_byte_class (rw (← r) p.whole)

    pub pass-end : 256 ≤ start → Pass c held count start 256
        → ◌≡◌ {A = ByteClass} (record { ranges = held; count = count }) (as_byte_class (ranges c))
    pass-end h p =
        let s : start ≡ 256 = omega (arith, p.begun) in
        let r : ranges_from start (drop start c) ≡ [] = rw (s, past) in
        stored-whole p.stored ∙ ap as_byte_class (sym (append-nil p.done) ∙ rw (← r) p.whole)
