-- The functions of `pattern::complexity` meet their contracts. Each way through `record_value` is a law of `RecordValues`, and each turn of a
-- chain's loop one of `Chains`. Assumes nothing.
use Rattle.std.proofs.Common.{rules, sym, ap, ◌∙◌}
use Rattle.pattern.specs.Priced.{priced}
use Rattle.pattern.proofs.Chains.{sum-starts, sum-none, sum-over, sum_goes, sum-ends, first-none, least-starts, part-none, least-goes, least-ends, least-empty}
use Rattle.pattern.proofs.RecordValues.{of-nothing, of-class, of-none, of-product}
use Rattle.pattern.proofs.PricedLaws.{priced-literal, priced-capture, priced-concat, priced-alternation}
use Rattle.pattern.proofs.complexity.+chain_least_chain_sum_record_value.Goals as goal

pub chain_least-returns-in_default : goal.chain_least-returns-in_default
chain_least-returns-in_default t c = rw c.in_default.is least-empty

pub chain_least-returns-in_err-least : goal.chain_least-returns-in_err-least
chain_least-returns-in_err-least t c =
    rw (c.from_residual.ensures, c.in-Some.is) (first-none c.in-Some.head (sym c.in_err-least.was ∙ c.record_value.ensures))

pub chain_least-loop-next-init : goal.chain_least-loop-next-init
chain_least-loop-next-init t c =
    rw c.in-Some.is
    (least-starts c.in-Some.head _ (sym c.in_ok-least.was ∙ c.record_value.ensures) _ c.next-next.ensures.chain c.next-next.ensures.lower)

pub chain_least-returns-in_err-value : goal.chain_least-returns-in_err-value
chain_least-returns-in_err-value t c =
    rw c.from_residual-in_err-value.ensures
    (part-none _ _ c.in-Some-next.node (rw c.in-Some-next.is at c.loop-next.invariant) (sym c.in_err-value.was ∙ c.record_value-in-Some-next.ensures))

pub chain_least-loop-next-preserved : goal.chain_least-loop-next-preserved
chain_least-loop-next-preserved t c =
    least-goes _ _ c.in-Some-next.node (rw c.in-Some-next.is at c.loop-next.invariant) _ (sym c.in_ok-value.was ∙ c.record_value-in-Some-next.ensures)
    _ (search rules) _ c.next-next-in-Some-next.ensures.chain c.next-next-in-Some-next.ensures.lower

pub chain_least-returns : goal.chain_least-returns
chain_least-returns t c = least-ends _ _ (rw c.in_default-next.is at c.loop-next.invariant)

pub chain_sum-loop-next-init : goal.chain_sum-loop-next-init
chain_sum-loop-next-init t c = sum-starts _

pub chain_sum-returns-in_err-value : goal.chain_sum-returns-in_err-value
chain_sum-returns-in_err-value t c =
    rw c.from_residual.ensures
    (sum-none _ _ c.in-Some.node (rw c.in-Some.is at c.loop-next.invariant) (sym c.in_err-value.was ∙ c.record_value.ensures))

pub chain_sum-returns-in_err-total : goal.chain_sum-returns-in_err-total
chain_sum-returns-in_err-total t c =
    rw c.from_residual-in_err-total.ensures
    (sum-over _ _ c.in-Some.node (rw c.in-Some.is at c.loop-next.invariant) _ (sym c.in_ok-value.was ∙ c.record_value.ensures) c.checked_add.result
    c.checked_add.ensures c.in_err-total.was)

pub chain_sum-loop-next-preserved : goal.chain_sum-loop-next-preserved
chain_sum-loop-next-preserved t c =
    sum_goes _ _ c.in-Some.node (rw c.in-Some.is at c.loop-next.invariant) _ (sym c.in_ok-value.was ∙ c.record_value.ensures) c.checked_add.result
    c.checked_add.ensures _ c.in_ok-total.was _ c.next-next.ensures.chain c.next-next.ensures.lower

pub chain_sum-returns : goal.chain_sum-returns
chain_sum-returns t c = sum-ends _ _ (rw c.in_default.is at c.loop-next.invariant)

pub record_value-returns-in_err-value-in-Repetition : goal.record_value-returns-in_err-value-in-Repetition
record_value-returns-in_err-value-in-Repetition t c =
    rw c.from_residual.ensures
    (of-none _ _ _ _ _ c.in-Repetition.ensures.stands c.in_err-value-in-Repetition.ensures)

pub record_value-returns-in-Empty : goal.record_value-returns-in-Empty
record_value-returns-in-Empty t c = of-nothing _ c.shape.result c.shape.ensures.stands c.in-Empty.is

pub record_value-returns-in-Literal : goal.record_value-returns-in-Literal
record_value-returns-in-Literal t c = c.literal_value.ensures ∙ sym (priced-literal _) ∙ ap priced c.in-Literal.ensures.stands

pub record_value-returns-in-Class : goal.record_value-returns-in-Class
record_value-returns-in-Class t c = of-class _ _ c.in-Class.ensures.stands

pub record_value-returns-in_ok-value-in-Repetition : goal.record_value-returns-in_ok-value-in-Repetition
record_value-returns-in_ok-value-in-Repetition t c =
    of-product _ _ _ _ _ c.in-Repetition.ensures.stands _ c.in_ok-value-in-Repetition.ensures _ c.checked_mul.ensures

pub record_value-returns-in-Capture : goal.record_value-returns-in-Capture
record_value-returns-in-Capture t c = c.record_value-in-Capture.ensures ∙ sym (priced-capture _) ∙ ap priced c.in-Capture.ensures.stands

pub record_value-returns-in-Concat : goal.record_value-returns-in-Concat
record_value-returns-in-Concat t c = c.chain_sum.ensures ∙ sym (priced-concat _) ∙ ap priced c.in-Concat.ensures.stands

pub record_value-returns-in-Alternation : goal.record_value-returns-in-Alternation
record_value-returns-in-Alternation t c = c.chain_least.ensures ∙ sym (priced-alternation _) ∙ ap priced c.in-Alternation.ensures.stands
