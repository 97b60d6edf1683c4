-- A state's leaf stands at its number. Assumes nothing.
use Rattle.std.specs.Prelude.{Option, Some, None, IfSome, MatchOption}
use Rattle.std.specs.Option.{IsSomeAnd}
use Rattle.std.proofs.Common.{rules}
use mathlib.Core.Path.{◌≡◌, ◌∙◌, ap, subst}
use Prim.Native.Nat.{ℕ, ◌<◌}
use native.Mathlib.Omega.{arith}
use borrow.Author.Count.{below_more}
use lib.ListN.{get_or, length-set}
use lib.Seq.{get_or-set_same, get_or-set_other}
use Rattle.graph_rules.proofs.Shape.{few-leaves}
use Rattle.legal.proofs.Legal.{legal-sized}
use Rattle.clean.proofs.leaves_of.Goals as goal

pub states-s-end-requires : goal.states-s-end-requires
states-s-end-requires c = let z = legal-sized _ c.args.table.legal in omega arith

pub bounds-out-s : goal.bounds-out-s
bounds-out-s c = let z = legal-sized _ c.args.table.legal in omega arith

pub map-requires : goal.map-requires
map-requires c = λ x q.
    let few = few-leaves c.args.table.words.now c.args.table.legal in
    let h = subst (λ (o : Option ℕ). IfSome o (λ l. l < get_or c.args.table.words.now 2 0)) q c.leaf_of.ensures.leaf in
    omega arith

-- a value that is its own image
mapped : (o r : Option ℕ) → MatchOption o (r ≡ None) (λ x. IsSomeAnd r (λ y. y ≡ x)) → r ≡ o
mapped None r e = e
mapped (Some x) None e = elim e [ ]
mapped (Some x) (Some y) e = ap Some e

pub loop-s-preserved : goal.loop-s-preserved
loop-s-preserved c =
    let l = c.loop-s in
    let w = c.args.table.words.now in
    let leaf = c.map.result in
    record {
      long = length-set l.out l.s leaf ∙ l.invariant.long;
      held = below_more _ l.s
          (λ k h. get_or-set_other l.out l.s k leaf None (λ e. let z : k ≡ l.s = e in omega arith) ∙ l.invariant.held k h)
          (get_or-set_same l.out l.s leaf None (let z = legal-sized w c.args.table.legal in omega arith) ∙ mapped c.leaf_of.result leaf (search (rules, c.map.ensures.cases)) ∙ c.leaf_of.ensures.value);
    }
