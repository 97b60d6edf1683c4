-- Byte after byte, as the library's iterator gives them. Assumes nothing.
use mathlib.Core.Path.{sym, ap, ◌∙◌}
use Prim.Native.Nat.{ℕ, ◌-◌}
use lib.ListN.{take, drop}
use Rattle.texts.specs.Text.{one}
use Rattle.texts.proofs.Writing.{starts, ends, goes, underway-as, part-counts}
use Rattle.display.proofs.Escapes.{escapes-alike}
use Rattle.display.proofs.byte_class.escape_default.Goals as goal

pub loop-e-init : goal.loop-e-init
loop-e-init c =
    underway-as (sym (escapes-alike c.args.b c.ranges.b.fits) ∙ sym c.escape_ascii-e-items.ensures.rest
    ∙ (λ i. let s = sym c.into_iter-e-iterator.ensures.into_iter_gives i in take (s.to - s.from) (drop s.from s.bytes))) (starts _ _ _)

pub byte-next-requires : goal.byte-next-requires
byte-next-requires c =
    part-counts (one c.in-Some.e) _ (underway-as c.in-Some.ensures.steps.1.0 c.loop-e.invariant) c.requires

pub loop-e-preserved : goal.loop-e-preserved
loop-e-preserved c =
    goes (one c.in-Some.e) _ (underway-as c.in-Some.ensures.steps.1.0 c.loop-e.invariant) c.byte-next.ensures

pub returns : goal.returns
returns c =
    let s = c.loop-e.e-iterator in
    ends (underway-as (ap (λ (k : ℕ). take k (drop s.from s.bytes)) c.in-None.ensures.steps.1.0) c.loop-e.invariant)
