-- The first that equals state s is the lowest; one that equals an earlier one is passed over. Assumes nothing.
use Rattle.std.proofs.Common.{refl, sym, ◌∙◌, arith}
use mathlib.Core.Bool.{false≢true}
use borrow.Author.Count.{below_more}
use Rattle.graph_rules.proofs.Merge.{same-sound}
use Rattle.graph_rules.proofs.Taken.{taken-few}
use Rattle.merge.proofs.Twins.{states-same}
use Rattle.merge.proofs.first_equal.Goals as goal
use Rattle.merge.proofs.first_equal.Goals.{else-stay-e-via-then-stay-e+else-equal, else-stay-e-via-else-stay-e}

pub bounds-stay-e : goal.bounds-stay-e
bounds-stay-e c = let h = c.requires.s_bound in omega (arith, taken-few c.args.graph.words.now c.args.graph.fits)

pub returns-then-equal : goal.returns-then-equal
returns-then-equal c =
    record { within = omega arith; equal = same-sound.eq _ _ (sym c.equal.ensures ∙ c.if-equal.true); before = c.loop-e.invariant }

pub loop-e-preserved : goal.loop-e-preserved
loop-e-preserved c =
    below_more _ c.loop-e.e c.loop-e.invariant (
    elim c.else-stay-e.branch [
      | else-stay-e-via-then-stay-e+else-equal v ↦ λ q. false≢true (sym v.if-equal.false ∙ v.equal.ensures ∙ states-same _ _ q)
      | else-stay-e-via-else-stay-e v ↦ λ q.
          let (f, b, x) = c.requires.by_index c.loop-e.e c.loop-e-test.true v.if-stay-e.false in
          c.loop-e.invariant f b (x ∙ q)
    ]
    )

pub returns : goal.returns
returns c = record { within = omega arith; equal = refl; before = λ j b. c.loop-e.invariant j (let a = c.loop-e-test.false in omega arith) }
