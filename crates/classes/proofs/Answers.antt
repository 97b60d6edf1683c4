-- The two structs read again: a class's ranges one after another, and its comparisons. Assumes nothing.
use Rattle.std.specs.Prelude.{Bool, true, false, cond, eqb, ◌*◌, ◌-◌, replicate}
use Rattle.std.specs.List.{fold, sum_by}
use mathlib.Core.Path.{◌≡◌, refl, ap, ◌∙◌}
use mathlib.Core.List.{List, [], ◌∷◌, ◌++◌, map, append_assoc}
use Prim.Native.Nat.{ℕ, suc, ◌+◌, ◌≤◌, ◌<◌}
use native.Mathlib.Omega.{arith}
use lib.ListN.{length, get_or, take, drop, length-map, length-append}
use lib.Seq.{drop-cons, take-append_seam, drop-append_seam}
use Rattle.classes.specs.Classes.{Class, has, Range, Comparison, comparisons, some_holds, ops_of, count_ops, sum_ops}
use Rattle.classes.specs.ClassAnswers.{row, no_range, no_entry, as_byte_class, exceptions, entry_of, as_comparisons, listed}
use Rattle.classes.specs.declared.byte_class.ByteClass.{ByteClass}
use Rattle.classes.specs.declared.byte_class.Comparison.{Comparison as Entry}
use Rattle.classes.specs.declared.byte_class.Comparisons.{Comparisons}
use Rattle.classes.proofs.Ranges.{comparisons-has}
use Rattle.classes.proofs.Rows.{row_at, row-used}

-- ---- ranges

module _ (rs : List Range) {held : ByteClass} (e : held ≡ as_byte_class rs) where
  pub held-count : held.count ≡ length rs
  unfolding as_byte_class
  held-count = rw e

  -- as far as they are counted, they are the ranges
  pub held-all : take held.count held.ranges ≡ rs
  unfolding as_byte_class
  held-all = rw e (row-used no_range rs)

  pub held_next : (i : ℕ) (d : Range) → i < held.count → drop i rs ≡ get_or held.ranges i d ∷ drop (suc i) rs
  unfolding as_byte_class
  held_next i d h =
      let n : i < length rs = omega (arith, held-count) in
      drop-cons rs i d n ∙ rw (e, row_at no_range rs i d n)

-- ---- comparisons

-- as far as they are counted, they are the comparisons' entries
pub laid-all : (ms : List Comparison) {laid : Comparisons} → laid ≡ as_comparisons ms → take laid.count laid.list ≡ map entry_of ms
unfolding as_comparisons
laid-all ms e = rw (e, ← length-map ms entry_of) (row-used no_entry (map entry_of ms))

-- ---- their operations, added up

abbrev pub entry_ops : Entry → ℕ
entry_ops e = ops_of e.first e.last e.holes

ops-added : (ms : List Comparison) (k : ℕ) → fold (λ a e. a + entry_ops e) k (map entry_of ms) ≡ k + sum_ops ms
ops-added [] k = omega arith
ops-added (m ∷ ms) k = let h = ops-added ms (k + count_ops m) in omega arith

pub ops-sum : (ms : List Comparison) → sum_by entry_ops (map entry_of ms) ≡ sum_ops ms
ops-sum ms = let h = ops-added ms 0 in omega arith

ends-few : (a b c : Bool) → cond a 1 (cond b 0 1 + cond c 0 1) ≤ 2
ends-few true b c = omega arith
ends-few false true true = omega arith
ends-few false true false = omega arith
ends-few false false true = omega arith
ends-few false false false = omega arith

ops-few : (ms : List Comparison) → sum_ops ms ≤ 2 * length ms + length (exceptions ms)
ops-few [] = omega arith
ops-few (m ∷ ms) =
    let h = ops-few ms in
    let e = ends-few (eqb m.range.first m.range.last) (eqb m.range.first 0) (eqb m.range.last 255) in
    omega (arith, length-append m.except (exceptions ms))

pub ops-room : (ms : List Comparison) {laid : Comparisons} → laid ≡ as_comparisons ms → laid.count ≤ 128 → length laid.except ≤ 128 → sum_ops ms ≤ 512
unfolding as_comparisons row
ops-room ms {laid} e few long =
    let n : laid.count ≡ length ms = ap (λ (x : Comparisons). x.count) e in
    let x : length laid.except ≡ length (exceptions ms ++ replicate (128 - length (exceptions ms)) 0) = ap (λ (x : Comparisons). length x.except) e in
    omega (arith, ops-few ms, length-append (exceptions ms) (replicate (128 - length (exceptions ms)) 0))

-- ---- read back

pub listed-laid : (ms : List Comparison) (x : List ℕ) → listed (map entry_of ms) (exceptions ms ++ x) ≡ ms
listed-laid [] x = refl
listed-laid (m ∷ ms) x =
    rw (append_assoc m.except (exceptions ms) x, take-append_seam m.except (exceptions ms ++ x), drop-append_seam m.except (exceptions ms ++ x), listed-laid ms x)

-- what is laid out is read back
pub listed_answer : (ms : List Comparison) {laid : Comparisons} → laid ≡ as_comparisons ms → listed (take laid.count laid.list) laid.except ≡ ms
unfolding as_comparisons row
listed_answer ms e = rw (laid-all ms e, e) (listed-laid ms _)

-- the comparisons of a class, laid out, hold of a byte exactly if the class has it
pub listed_has : (c : Class) {laid : Comparisons} → laid ≡ as_comparisons (comparisons c)
    → (b : ℕ) → some_holds (listed (take laid.count laid.list) laid.except) b ≡ has c b
listed_has c e b = ap (λ (ms : List Comparison). some_holds ms b) (listed_answer (comparisons c) e) ∙ comparisons-has c b
