-- A class that costs little has few comparisons, with few exceptions, and few are read back from the front of the arrays that they are laid out in.
-- Assumes nothing.
use mathlib.Core.Path.{◌≡◌}
use mathlib.Core.List.{List, [], ◌∷◌, map}
use Prim.Native.Nat.{ℕ, suc, ◌-◌, ◌≤◌}
use native.Mathlib.Omega.{arith}
use borrow.Author.Tests.{ne_eqb}
use lib.Dec.{eqb}
use lib.ListN.{length, take, replicate, length-append, length-map}
use lib.Seq.{take-append_seam}
use Rattle.lists.proofs.Bools.{Is, yes-is, no-is, is}
use Rattle.classes.specs.Classes.{Class, Range, Comparison, join, joined, comparisons, ops_of, count_ops, sum_ops, cost}
use Rattle.classes.specs.ClassAnswers.{exceptions, entry_of, no_entry, as_comparisons, listed}
use Rattle.classes.specs.declared.byte_class.Comparisons.{Comparisons}
use Rattle.classes.proofs.Ranges.{Apart, apart-nil, apart_cons, ranges_apart}
use Rattle.classes.proofs.Answers.{listed-laid}
use Rattle.classes.proofs.Rows.{row-long, row-front}

-- ---- each comparison but the first costs something, since none but that begins at byte 0

data Costly : List Comparison → Type 0 where
  costly-nil : Costly []
  costly-cons : {m : Comparison} {ms : List Comparison} → 1 ≤ count_ops m → Costly ms → Costly (m ∷ ms)

ops-above : (first last n : ℕ) → 1 ≤ first → 1 ≤ ops_of first last n
ops-above first last n h = go (is (eqb first last))
  where
    go : Is (eqb first last) → 1 ≤ ops_of first last n
    go (yes-is e) = rw e (omega arith)
    go (no-is e) = rw (e, ne_eqb first 0 (λ q. omega arith)) (omega arith)

costly-few : {ms : List Comparison} → Costly ms → length ms ≤ sum_ops ms
costly-few costly-nil = omega arith
costly-few (costly-cons a c) = let h = costly-few c in omega arith

module _ (r : Range) where
  join-costly : {ms : List Comparison} → 1 ≤ r.first → Costly ms → Costly (join r ms)
  join-costly h costly-nil = costly-cons {m = record { range = r; except = [] }} (ops-above r.first r.last 0 h) costly-nil
  join-costly h (costly-cons {m = m} {ms = ms} a c) = go (is (eqb m.range.first (suc (suc r.last))))
    where
      go : Is (eqb m.range.first (suc (suc r.last))) → Costly (join r (m ∷ ms))
      go (yes-is e) =
          rw e (costly-cons {m = record { range = record { first = r.first; last = m.range.last }; except = suc r.last ∷ m.except }} (omega arith) c)
      go (no-is e) = rw e (costly-cons {m = record { range = r; except = [] }} (ops-above r.first r.last 0 h) (costly-cons a c))

  join-few : {ms : List Comparison} → Costly ms → length (join r ms) ≤ suc (sum_ops (join r ms))
  join-few costly-nil = omega arith
  join-few (costly-cons {m = m} {ms = ms} a c) = go (is (eqb m.range.first (suc (suc r.last)))) (costly-few c)
    where
      go : Is (eqb m.range.first (suc (suc r.last))) → length ms ≤ sum_ops ms → length (join r (m ∷ ms)) ≤ suc (sum_ops (join r (m ∷ ms)))
      go (yes-is e) h = rw e (omega arith)
      go (no-is e) h = rw e (omega arith)

joined-costly : {low : ℕ} {rs : List Range} → 1 ≤ low → Apart low rs → Costly (joined rs)
joined-costly h apart-nil = costly-nil
joined-costly h (apart_cons {r = r} a b c) = join-costly r (omega arith) (joined-costly (omega arith) c)

joined-few : {low : ℕ} {rs : List Range} → Apart low rs → length (joined rs) ≤ suc (sum_ops (joined rs))
joined-few apart-nil = omega arith
joined-few (apart_cons {r = r} a b c) = join-few r (joined-costly (omega arith) c)

-- at most one more than the class costs
pub few-comparisons : (c : Class) → length (comparisons c) ≤ suc (cost c)
unfolding comparisons cost
few-comparisons c = joined-few (ranges_apart c)

sum-exceptions : (ms : List Comparison) → length (exceptions ms) ≤ sum_ops ms
sum-exceptions [] = omega arith
sum-exceptions (m ∷ ms) = let h = sum-exceptions ms in rw (length-append m.except (exceptions ms)) (omega arith)

-- at most what the class costs
pub few-exceptions : (c : Class) → length (exceptions (comparisons c)) ≤ cost c
unfolding cost
few-exceptions c = sum-exceptions (comparisons c)

-- ---- laid out

module _ (ms : List Comparison) {laid : Comparisons} (e : laid ≡ as_comparisons ms) where
  pub laid-long : (128 ≤ length laid.list) × (128 ≤ length laid.except)
  unfolding as_comparisons
  laid-long = rw e (row-long no_entry _, row-long 0 _)

  -- no more is read than is in use
  pub listed-front : (n k : ℕ) → length ms ≤ n → length (exceptions ms) ≤ k
      → listed (take laid.count (take n laid.list)) (take k laid.except) ≡ ms
  unfolding as_comparisons
  listed-front n k h x =
      let all : length (map entry_of ms) ≡ length ms = length-map ms entry_of in
      let few : length (map entry_of ms) ≤ n = omega arith in
      rw (e, row-front no_entry (map entry_of ms) n few, ← all, take-append_seam (map entry_of ms) (take (n - length (map entry_of ms)) (replicate (128 - length (map entry_of ms)) no_entry)), row-front 0 (exceptions ms) k x)
      (listed-laid ms _)
