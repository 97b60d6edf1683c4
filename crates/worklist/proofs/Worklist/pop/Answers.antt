-- The last of those that wait. Assumes nothing.
use Rattle.std.proofs.Common.{sym, ap, ◌∙◌, arith}
use Rattle.worklist.specs.Work.{Work}
use Rattle.worklist.proofs.Stack.{low, take-last}
use Rattle.worklist.proofs.Worklist.pop.Goals as goal

pub offset_bounds-self-inside-self-inside : goal.offset_bounds-self-inside-self-inside
offset_bounds-self-inside-self-inside g c = let h = low g.row.N c.self.inside.seen c.self.inside.stack c.self.inside.top c.self.invariant in let n = c.self.invariant.4 in omega arith

pub bounds-self-inside-self-inside : goal.bounds-self-inside-self-inside
bounds-self-inside-self-inside g c = let h = low g.row.N c.self.inside.seen c.self.inside.stack c.self.inside.top c.self.invariant in omega arith

pub returns-clause-waiting : goal.returns-clause-waiting
returns-clause-waiting g c =
    let h = low g.row.N c.self.inside.seen c.self.inside.stack c.self.inside.top c.self.invariant in
    let l = c.self.invariant.1 in
    sym (ap (λ (w : Work). w.waiting) c.self.view_is) ∙ take-last c.self.inside.stack c.self.inside.top (omega arith) (omega arith)
