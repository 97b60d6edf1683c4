-- Its first record has that priority, or the chain's first record of it is its next's. Assumes nothing.
use mathlib.Core.Path.{sym, ap, ◌∙◌}
use native.Mathlib.Omega.{arith}
use Rattle.std.proofs.lemmas.Option.{MatchOption-at_some}
use Rattle.legal.specs.Records.{number_of}
use Rattle.leaves.proofs.Walks.{first_on, here-first, first-next}
use Rattle.leaves.proofs.first_with.Goals as goal

pub returns-then-priority-p-clause-number : goal.returns-then-priority-p-clause-number
returns-then-priority-p-clause-number c =
    ap number_of c.in-Some.is
    ∙ here-first c.in-Some.i c.args.p (sym c.priority.ensures ∙ c.if-priority-p.true)
    ∙ ap (first_on c.args.p) (sym c.in-Some.is)
    ∙ c.loop-at.invariant.same

pub loop-at-preserved : goal.loop-at-preserved
loop-at-preserved c =
    let i = c.in-Some.i in
    let n = c.next-at in
    record {
      of = λ r e.
          let b = c.loop-at.invariant.of i c.in-Some.is in
          let l = MatchOption-at_some _ _ r e n.ensures.lower in
          (MatchOption-at_some _ _ r e n.ensures.table ∙ b.0, omega arith);
      same = sym (first-next i n.result n.ensures.number n.ensures.table c.args.p (λ e. c.if-priority-p.false (c.priority.ensures ∙ e)))
          ∙ ap (first_on c.args.p) (sym c.in-Some.is)
          ∙ c.loop-at.invariant.same;
    }

pub returns-clause-number : goal.returns-clause-number
returns-clause-number c = ap (first_on c.args.p) (sym c.in_default.is) ∙ c.loop-at.invariant.same
