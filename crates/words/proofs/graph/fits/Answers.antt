-- `words::graph::fits` meets its contract: each way out is one condition of 12. Assumes nothing.
use Rattle.std.proofs.Common.{sym, ◌∙◌, arith}
use Rattle.words.proofs.Fitting.{unfit-short, unfit-long, unfit-many, unfit-target, fits-none, fits-some}
use Rattle.words.proofs.graph.fits.Goals as goal

pub returns-then-graph-lt2 : goal.returns-then-graph-lt2
returns-then-graph-lt2 c = sym (unfit-short c.args.graph.now (omega arith))

pub returns-then-n-gt-STATES : goal.returns-then-n-gt-STATES
returns-then-n-gt-STATES c = sym (unfit-many c.args.graph.now _ c.word-n.ensures.0 c.if-n-gt-STATES.true)

pub returns-then-graph-place : goal.returns-then-graph-place
returns-then-graph-place c = sym (unfit-long c.args.graph.now _ c.word-n.ensures.0 (omega (arith, c.place.ensures)))

pub returns-then-not-targets_fit : goal.returns-then-not-targets_fit
returns-then-not-targets_fit c = sym (unfit-target c.args.graph.now _ c.word-n.ensures.0 (sym c.targets_fit.ensures ∙ c.if-not-targets_fit.true))

pub returns-then-n-eq0 : goal.returns-then-n-eq0
returns-then-n-eq0 c =
    let fit = sym c.targets_fit.ensures ∙ c.if-not-targets_fit.false in
    sym (fits-none c.args.graph.now _ c.word-n.ensures.0 (omega arith) (omega arith) (omega arith) fit _ c.word-root.ensures.0 c.if-n-eq0.true)

pub returns : goal.returns
returns c =
    let fit = sym c.targets_fit.ensures ∙ c.if-not-targets_fit.false in
    sym (fits-some c.args.graph.now _ c.word-n.ensures.0 (omega arith) (omega arith) (omega arith) fit _ c.word-root.ensures.0 c.if-n-eq0.false)
