-- Turn by turn. Assumes nothing.
use Rattle.std.proofs.Common.{◌≡◌, ◌<◌, None, arith, length, sym, ◌∙◌}
use Rattle.readings.proofs.Turn.{rest-all, turn-ends, turn-goes, turn-stops}
use Rattle.readings.proofs.walk.walk.Goals as goal

pub loop-k-init : goal.loop-k-init
loop-k-init g c =
    record {
      state = c.requires;
      left = rw c.none-last.ensures (rest-all (g.W.Walker.walker c.args.w.now) c.args.text.now c.args.start None);
    }

pub returns-in_default : goal.returns-in_default
returns-in_default g c =
    let more : c.loop-k.k < length c.args.text.now = omega arith in
    turn-stops c.loop-k.invariant (c.entered.ensures.value c.loop-k.last ∙ sym c.record.ensures) more (sym c.in_default.ensures.target)

pub loop-k-preserved : goal.loop-k-preserved
loop-k-preserved g c =
    let more : c.loop-k.k < length c.args.text.now = omega arith in
    turn-goes c.loop-k.invariant (c.entered.ensures.value c.loop-k.last ∙ sym c.record.ensures) more c.in-Some.ensures.below (sym c.in-Some.ensures.target)

pub returns : goal.returns
returns g c =
    let done : c.loop-k.k ≡ length c.args.text.now = omega arith in
    c.ended.ensures ∙ turn-ends c.loop-k.invariant done (c.entered-2.ensures.value c.loop-k.last ∙ sym c.record-2.ensures)
