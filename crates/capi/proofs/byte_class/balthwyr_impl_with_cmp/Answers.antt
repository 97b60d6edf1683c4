-- Comparison after comparison, zeros behind them, and the exceptions. Assumes nothing.
use Rattle.std.proofs.Common.{◌≡◌, refl, ℕ, ◌≤◌, List, length, take, arith}
use borrow.Rule.Slice.PartMut.{put_mid}
use lib.ListN.{length-take}
use Rattle.classes.specs.Classes.{Comparison, comparisons}
use Rattle.classes.specs.ClassAnswers.{no_entry, as_comparisons}
use Rattle.classes.specs.declared.byte_class.Comparisons.{Comparisons}
use Rattle.classes.proofs.Answers.{laid-all}
use Rattle.capi.specs.Parts.{cmp_bytes}
use Rattle.capi.proofs.Columns.{column-all, three, three-none, three-next, three-filled}
use Rattle.capi.proofs.byte_class.balthwyr_impl_with_cmp.Goals as goal

pub loop-i-init : goal.loop-i-init
loop-i-init c =
    let laid = c.impl_with_cmp-cmp.result in
    three-none (λ comparison. comparison.first) (λ comparison. comparison.last) (λ comparison. comparison.holes) (take laid.count laid.list)

pub loop-i-preserved : goal.loop-i-preserved
loop-i-preserved c =
    let laid = c.impl_with_cmp-cmp.result in
    let n = length-take laid.count laid.list in
    let room = c.impl_with_cmp-cmp.ensures.room in
    rw (
      c.loop-i.invariant,
      three-next (λ comparison. comparison.first) (λ comparison. comparison.last) (λ comparison. comparison.holes) (take laid.count laid.list) no_entry c.loop-i.i (omega arith) (omega arith),
    )

-- all comparisons, zeros behind them, and the exceptions
stored : (ms : List Comparison) {laid : Comparisons} → laid ≡ as_comparisons ms → (i : ℕ) → i ≤ length (take laid.count laid.list) → length (take laid.count laid.list) ≤ i → i ≤ 128
    → put_mid 384 128 (three (λ comparison. comparison.first) (λ comparison. comparison.last) (λ comparison. comparison.holes) (take laid.count laid.list) i) laid.except ≡ cmp_bytes laid
unfolding as_comparisons
stored ms {laid} e i all h k =
    let xs = take laid.count laid.list in
    rw (
      three-filled (λ comparison. comparison.first) (λ comparison. comparison.last) (λ comparison. comparison.holes) xs i all k laid.except,
      column-all (λ comparison. comparison.first) xs no_entry i refl h,
      column-all (λ comparison. comparison.last) xs no_entry i refl h,
      column-all (λ comparison. comparison.holes) xs no_entry i refl h,
      laid-all ms e,
      e,
    )

pub returns : goal.returns
returns c =
    let laid = c.impl_with_cmp-cmp.result in
    let e = c.impl_with_cmp-cmp.ensures.value in
    let n = length-take laid.count laid.list in
    let room = c.impl_with_cmp-cmp.ensures.room in
    let s = stored (comparisons c.flags_of.result) e c.loop-i.i (omega arith) (omega arith) (omega arith) in
    let b : put_mid 384 128 c.loop-i.bytes c.copy_from_slice.new.self ≡ cmp_bytes laid = rw (c.copy_from_slice.ensures.after, c.loop-i.invariant) s in
    rw (← c.flags_of.ensures, ← e, ← b) (record { flags_value = c.put_counted.ensures.n_value; parts_after = c.put_counted.ensures.block_after })
