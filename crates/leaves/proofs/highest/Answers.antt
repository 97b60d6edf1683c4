-- The turn's record and the rest of its chain. Assumes nothing.
use mathlib.Core.Path.{◌≡◌, ap}
use Prim.Native.Nat.{ℕ, max}
use native.Mathlib.Omega.{arith}
use Rattle.std.specs.Ordering.{nat_cmp, ord_max}
use Rattle.std.proofs.lemmas.Grind.{common_steps}
use Rattle.leaves.proofs.Walks.{highest_on, highest-next}
use Rattle.leaves.proofs.highest.Goals as goal

maxed : (a b : ℕ) → ord_max nat_cmp a b ≡ max a b
maxed a b = grind (arith, common_steps)

pub loop-at-preserved : goal.loop-at-preserved
loop-at-preserved c =
    let here = ap highest_on c.in-Some.is in
    let next = highest-next c.in-Some.i c.next-at.result c.next-at.ensures.number c.next-at.ensures.table in
    let k = maxed c.loop-at.top c.priority.result in
    omega arith

pub returns : goal.returns
returns c = let last = ap highest_on c.in_default.is in let e = c.loop-at.invariant in omega arith
