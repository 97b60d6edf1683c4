-- Flag after flag. Assumes nothing.
use Rattle.std.proofs.Common.{◌≡◌, ℕ, ◌<◌, List, length, false, sym, ap, ◌∙◌, arith}
use native.Mathlib.Numerals.{add-one}
use lib.ListN.{get_or, take, set}
use Rattle.bits.specs.Bits.{with_bit}
use Rattle.mask_store.specs.Layout.{store_size, most_masks, mask_table, mask_bit, entry_place}
use Rattle.mask_store.specs.Masks.{written}
use Rattle.mask_store.proofs.Writing.{written_none, written-ahead, written_step}
use Rattle.mask_store.proofs.tables.write_mask.Goals as goal

pub loop-b-init : goal.loop-b-init
loop-b-init c = sym (written_none c.args.tables.now c.args.i)

pub loop-b-preserved : goal.loop-b-preserved
loop-b-preserved c =
    let before = c.args.tables.now in
    let i = c.args.i in
    let class = c.args.class.now in
    let b = c.loop-b.b in
    let j : ℕ = entry_place (mask_table i) b in
    let room : i < most_masks = omega arith in
    let size : length before ≡ store_size = omega arith in
    let wide : length class ≡ 256 = omega arith in
    let byte : b < 256 = omega arith in
    let old : get_or c.loop-b.tables j 0 ≡ get_or before j 0 = ap (λ (l : List ℕ). get_or l j 0) c.loop-b.invariant ∙ written-ahead before i class size room b byte wide in
    let new : c.with_bit.result ≡ with_bit (mask_bit i) (get_or before j 0) (get_or class b false) =
    c.with_bit.ensures ∙ ap (λ (w : ℕ). with_bit (mask_bit i) w (get_or class b false)) old in
    ap (set c.loop-b.tables j) new
    ∙ ap (λ (l : List ℕ). set l j (with_bit (mask_bit i) (get_or before j 0) (get_or class b false))) c.loop-b.invariant
    ∙ sym (written_step before i class size room b byte wide)
    ∙ ap (λ (n : ℕ). written before i (take n class)) (sym (add-one b))
