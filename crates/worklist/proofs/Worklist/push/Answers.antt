-- One number more. Assumes nothing.
use Rattle.std.proofs.Common.{arith}
use Rattle.worklist.proofs.Stack.{low, room, held-more, pushed-is}
use Rattle.worklist.proofs.Worklist.push.Goals as goal

pub offset_bounds-self-inside-self-inside : goal.offset_bounds-self-inside-self-inside
offset_bounds-self-inside-self-inside g c = let h = low g.row.N c.self.inside.seen c.self.inside.stack c.self.inside.top c.self.invariant in let n = c.self.invariant.4 in omega arith

pub bounds-self-inside-self-inside : goal.bounds-self-inside-self-inside
bounds-self-inside-self-inside g c = room g.row.N c.self.inside.seen c.self.inside.stack c.self.inside.top c.self.invariant c.args.number c.requires c.if-not-self-number.true

pub overflow_add-self : goal.overflow_add-self
overflow_add-self g c = let h = low g.row.N c.self.inside.seen c.self.inside.stack c.self.inside.top c.self.invariant in let n = c.self.invariant.4 in omega arith

pub invariant_of-self : goal.invariant_of-self
invariant_of-self g c =
    held-more g.row.N c.self.inside.seen c.self.inside.stack c.self.inside.top c.self.invariant c.args.number c.requires c.if-not-self-number.true

pub returns-then-not-self-number : goal.returns-then-not-self-number
returns-then-not-self-number g c =
    pushed-is g.row.N c.self.inside.seen c.self.inside.stack c.self.inside.top c.self.invariant c.args.number c.requires c.if-not-self-number.true
    c.args.self.now c.self.view_is
