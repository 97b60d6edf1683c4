-- Each test is one of the definition's. Assumes nothing.
use borrow.Author.Tests.{le-leb, lt-leb}
use Rattle.display.specs.Answers.{error_fits}
use Rattle.display.proofs.errors.fits.Goals as goal

pub returns-then-words-ge2 : goal.returns-then-words-ge2
unfolding error_fits
returns-then-words-ge2 c = simp (le-leb _ _ c.if-words-ge2.true)

pub returns-else-words-ge2 : goal.returns-else-words-ge2
unfolding error_fits
returns-else-words-ge2 c = simp (lt-leb _ _ c.if-words-ge2.false)
