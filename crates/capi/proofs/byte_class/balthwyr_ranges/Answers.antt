-- Range after range, and zeros behind them. Assumes nothing.
use Rattle.std.proofs.Common.{◌≡◌, refl, ℕ, ◌≤◌, List, length, take, ◌∙◌, arith}
use lib.ListN.{length-take}
use Rattle.classes.specs.Classes.{Range, ranges}
use Rattle.classes.specs.ClassAnswers.{no_range, as_byte_class}
use Rattle.classes.specs.declared.byte_class.ByteClass.{ByteClass}
use Rattle.classes.proofs.Answers.{held-all}
use Rattle.capi.specs.Parts.{range_bytes}
use Rattle.capi.proofs.Columns.{column-all, two, two-none, two-next}
use Rattle.capi.proofs.byte_class.balthwyr_ranges.Goals as goal

pub loop-i-init : goal.loop-i-init
loop-i-init c = two-none (λ range. range.first) (λ range. range.last) (take c.ranges-class.result.count c.ranges-class.result.ranges)

pub loop-i-preserved : goal.loop-i-preserved
loop-i-preserved c =
    let held = c.ranges-class.result in
    let n = length-take held.count held.ranges in
    let room = c.ranges-class.ensures.room in
    rw (
      c.loop-i.invariant,
      two-next (λ range. range.first) (λ range. range.last) (take held.count held.ranges) no_range c.loop-i.i (omega arith) (omega arith),
    )

-- all ranges, and zeros behind them
stored : (rs : List Range) {held : ByteClass} → held ≡ as_byte_class rs → (i : ℕ) → length (take held.count held.ranges) ≤ i
    → two (λ range. range.first) (λ range. range.last) (take held.count held.ranges) i ≡ range_bytes held
unfolding as_byte_class
stored rs {held} e i h =
    let xs = take held.count held.ranges in
    rw (column-all (λ range. range.first) xs no_range i refl h, column-all (λ range. range.last) xs no_range i refl h, held-all rs e, e)

pub returns : goal.returns
returns c =
    let e = c.ranges-class.ensures.value in
    let b : c.loop-i.bytes ≡ range_bytes c.ranges-class.result = c.loop-i.invariant ∙ stored (ranges c.flags_of.result) e c.loop-i.i (omega arith) in
    rw (← c.flags_of.ensures, ← e, ← b) (record { flags_value = c.put_counted.ensures.n_value; parts_after = c.put_counted.ensures.block_after })
