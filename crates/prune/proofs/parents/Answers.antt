-- A target's bit is set; an edge that is not there leaves the bits. Assumes nothing.
use Rattle.std.specs.Prelude.{Some}
use Rattle.std.proofs.Common.{◌≡◌, ℕ, length, sym, subst, ◌∙◌, arith}
use Rattle.lists.proofs.Bools.{none-some}
use Rattle.graph_rules.specs.Graph.{graph_from, to}
use Rattle.graph_rules.proofs.Taken.{taken-few}
use Rattle.graph_rules.proofs.Flat.{from-length}
use Rattle.words.proofs.GraphWords.{from-edge}
use Rattle.prune.proofs.BitRows.{Matrix, parents-none, parents-skip, parents-set, parents-row, parents-all}
use Rattle.prune.proofs.parents.Goals as goal
use Rattle.prune.proofs.parents.Goals.{in-Some, in_default}

pub loop-p-init : goal.loop-p-init
loop-p-init c = parents-none _

pub loop-c-preserved : goal.loop-c-preserved
loop-c-preserved c =
    let g = graph_from c.args.graph.words.now in
    let few = taken-few c.args.graph.words.now c.args.graph.fits in
    elim c.match-target.branch [
      | in-Some w ↦
          let e : to g c.loop-p.p c.loop-c.c ≡ Some w.in-Some.t = sym c.target.ensures.value ∙ w.in-Some.is in
          let (inside, b, x, low) = from-edge c.args.graph.words.now c.args.graph.fits c.loop-p.p c.loop-c.c w.in-Some.t e in
          rw (w.out-is, w.with_bit.ensures)
          (parents-set g c.loop-p.p c.loop-c.c c.loop-c.out c.loop-c.invariant w.in-Some.t (omega arith) (omega arith) e)
      | in_default w ↦
          rw w.out-is
          (parents-skip g c.loop-p.p c.loop-c.c c.loop-c.out c.loop-c.invariant (λ u x. none-some (sym (sym c.target.ensures.value ∙ w.in_default.is) ∙ x)))
    ]

pub loop-p-preserved : goal.loop-p-preserved
loop-p-preserved c =
    parents-row (graph_from c.args.graph.words.now) c.loop-p.p c.loop-c.c c.loop-c.out c.loop-c.invariant
    (λ d u e. let b = (from-edge c.args.graph.words.now c.args.graph.fits c.loop-p.p d u e).1 in omega arith)

pub returns : goal.returns
returns c =
    let g = graph_from c.args.graph.words.now in
    let e : c.loop-p.p ≡ length g.states = let a = c.states-p-end.ensures.0 in let b = from-length c.args.graph.words.now in let d = c.loop-p.auto.p-end in omega arith in
    parents-all g c.loop-p.out (subst (λ (k : ℕ). Matrix g k 0 c.loop-p.out) e c.loop-p.invariant)
