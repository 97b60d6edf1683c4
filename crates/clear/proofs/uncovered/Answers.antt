-- A target whose leaf differs is flagged; any other edge uncovers nothing. Assumes nothing.
use Rattle.std.specs.Prelude.{Some}
use Rattle.std.proofs.Common.{◌≡◌, ℕ, true, false, length, sym, ap, subst, ◌∙◌, arith}
use mathlib.Core.Bool.{false≢true}
use Rattle.lists.specs.Lists.{eq_option}
use Rattle.lists.proofs.Bools.{Is, is, yes-is, no-is, none-some, some_inj}
use Rattle.lists.proofs.Elements.{option-sound}
use Rattle.lists.proofs.Options.{options-differ, options-same}
use Rattle.graph_rules.specs.Graph.{Graph, graph_from, to, accept_of, early_of}
use Rattle.graph_rules.proofs.Taken.{taken-few}
use Rattle.graph_rules.proofs.Flat.{from-length}
use Rattle.words.proofs.GraphWords.{from-edge}
use Rattle.clear.proofs.Parents.{Passed, passed_none, passed-skip, passed-mark, passed-row, passed-all}
use Rattle.clear.proofs.uncovered.Goals as goal
use Rattle.clear.proofs.uncovered.Goals.{in-Some+then-ne, in-Some+else-ne, in_default}

-- leaves that differ are not equal by the test
apart : (g : Graph) (p u : ℕ) → (accept_of g u ≡ early_of g p → ⊥) → eq_option (early_of g p) (accept_of g u) ≡ false
apart g p u n = go (is (eq_option (early_of g p) (accept_of g u)))
  where
    go : Is (eq_option (early_of g p) (accept_of g u)) → eq_option (early_of g p) (accept_of g u) ≡ false
    go (yes-is e) = absurd (n (sym (option-sound.eq (early_of g p) (accept_of g u) e)))
    go (no-is e) = e

pub loop-p-init : goal.loop-p-init
loop-p-init c = passed_none _

pub loop-p-preserved : goal.loop-p-preserved
loop-p-preserved c =
    passed-row (graph_from c.args.graph.words.now) c.loop-p.p c.loop-c.c c.loop-c.out c.loop-c.invariant
    (λ d u e. let b = (from-edge c.args.graph.words.now c.args.graph.fits c.loop-p.p d u e).1 in omega arith)

pub loop-c-preserved : goal.loop-c-preserved
loop-c-preserved c =
    let g = graph_from c.args.graph.words.now in
    let p = c.loop-p.p in
    let few = taken-few c.args.graph.words.now c.args.graph.fits in
    elim c.match-target.branch [
      | in-Some+then-ne w ↦
          let e : to g p c.loop-c.c ≡ Some w.in-Some.u = sym c.target.ensures.value ∙ w.in-Some.is in
          let (inside, b, x, low) = from-edge c.args.graph.words.now c.args.graph.fits p c.loop-c.c w.in-Some.u e in
          let n = options-differ w.accept.result c.early-leaf.result w.ne.result w.ne.ensures w.if-ne.true in
          rw w.out-is
          (passed-mark g p c.loop-c.c c.loop-c.out c.loop-c.invariant w.in-Some.u (omega arith)
          (e, apart g p w.in-Some.u (λ q. n (w.accept.ensures.value ∙ q ∙ sym c.early-leaf.ensures.value))))
      | in-Some+else-ne w ↦
          let e : to g p c.loop-c.c ≡ Some w.in-Some.u = sym c.target.ensures.value ∙ w.in-Some.is in
          let s : early_of g p ≡ accept_of g w.in-Some.u =
          sym c.early-leaf.ensures.value
          ∙ sym (options-same w.accept.result c.early-leaf.result w.ne.result w.ne.ensures w.if-ne.false)
          ∙ w.accept.ensures.value
          in
          rw w.out-is
          (passed-skip g p c.loop-c.c c.loop-c.out c.loop-c.invariant (λ u x.
          let same : w.in-Some.u ≡ u = some_inj (sym e ∙ x.0) in
          let a : accept_of g u ≡ early_of g p = ap (accept_of g) (sym same) ∙ sym s in
          false≢true (sym x.1 ∙ subst (λ o. eq_option (early_of g p) o ≡ true) (sym a) (option-sound.self (early_of g p)))))
      | in_default w ↦
          rw w.out-is
          (passed-skip g p c.loop-c.c c.loop-c.out c.loop-c.invariant (λ u x. none-some (sym (sym c.target.ensures.value ∙ w.in_default.is) ∙ x.0)))
    ]

pub returns : goal.returns
returns c s h =
    let g = graph_from c.args.graph.words.now in
    let e : c.loop-p.p ≡ length g.states = let a = c.states-p-end.ensures.0 in let b = from-length c.args.graph.words.now in let d = c.loop-p.auto.p-end in omega arith in
    passed-all g c.loop-p.out (subst (λ (k : ℕ). Passed g k 0 c.loop-p.out) e c.loop-p.invariant) s
