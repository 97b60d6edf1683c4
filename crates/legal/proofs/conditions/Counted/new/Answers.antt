-- After each test one condition more holds; where a test fails, it is the lowest that is broken. Assumes nothing.
use mathlib.Core.Path.{sym, ◌∙◌}
use Rattle.legal.proofs.Legal.{told-short, told-counts, told-length, sized-is}
use Rattle.legal.proofs.conditions.Counted.new.Goals as goal

pub returns-then-words-lt4 : goal.returns-then-words-lt4
returns-then-words-lt4 c = told-short _ c.if-words-lt4.true

pub returns-then-not-counts_fit : goal.returns-then-not-counts_fit
returns-then-not-counts_fit c =
    told-counts _ _ _ _ c.if-words-lt4.false c.word-n.ensures.0 c.word-m.ensures.0 c.word-r.ensures.0 (sym c.counts_fit.ensures ∙ c.if-not-counts_fit.true)

pub returns-then-words-size : goal.returns-then-words-size
returns-then-words-size c =
    told-length _ _ _ _ c.if-words-lt4.false c.word-n.ensures.0 c.word-m.ensures.0 c.word-r.ensures.0 (sym c.counts_fit.ensures ∙ c.if-not-counts_fit.false)
    (λ e. c.if-words-size.true (e ∙ sym c.size.ensures))

pub invariant_of-result : goal.invariant_of-result
invariant_of-result c =
    record {
      sized = sized-is _ _ _ _ c.if-words-lt4.false c.word-n.ensures.0 c.word-m.ensures.0 c.word-r.ensures.0 (sym c.counts_fit.ensures ∙ c.if-not-counts_fit.false)
          (c.if-words-size.false ∙ c.size.ensures);
    }
