-- The seeds are met; then the parents of each state that is taken. Assumes nothing.
use Rattle.std.proofs.Common.{◌≡◌, ℕ, ◌+◌, ◌*◌, ◌-◌, ◌%◌, ◌<◌, ◌++◌, false, get_or, replicate, sym, ap, subst, ◌∙◌, arith}
use Rattle.lists.specs.Sets.{count}
use Rattle.lists.proofs.Counting.{count-length}
use Rattle.graph_rules.specs.Graph.{graph_from, state_of, leads}
use Rattle.graph_rules.specs.Build.{kept}
use Rattle.graph_rules.specs.Layout.{most_states}
use Rattle.graph_rules.proofs.Taken.{taken-few}
use Rattle.graph_rules.proofs.Flat.{from-length}
use Rattle.worklist.specs.Work.{pushed}
use Rattle.worklist.proofs.Looking.{taken-fewer}
use Rattle.prune.specs.Matrix.{byte_of}
use Rattle.prune.proofs.Backward.{search-done}
use Rattle.prune.proofs.Looking.{Seeded, Looked, seeded-none, seeded-more, seeded-skip, looked-none, looked-on, looked-byte, looked-skip, looked-more, looked-all, bit-of}
use Rattle.prune.proofs.kept.Goals as goal
use Rattle.prune.proofs.kept.Goals.{then-is_seed, else-is_seed, then-test_bit, else-test_bit, then-byte-ne0+else-loop-b-test, else-byte-ne0}

pub loop-s-init : goal.loop-s-init
loop-s-init c = let g = graph_from c.args.graph.words.now in subst (Seeded g 0) (sym c.new-work.ensures) (seeded-none g)

pub loop-s-preserved : goal.loop-s-preserved
loop-s-preserved c =
    let g = graph_from c.args.graph.words.now in
    let n = c.states-n.ensures in
    let l = from-length c.args.graph.words.now in
    elim c.if-is_seed.branch [
      | then-is_seed w ↦
          rw (w.work-is, w.push.ensures)
          (seeded-more g c.loop-s.s c.loop-s.work c.loop-s.invariant (omega arith) (omega arith) (sym c.is_seed.ensures ∙ w.if-is_seed.true))
      | else-is_seed w ↦ rw w.work-is (seeded-skip g c.loop-s.s c.loop-s.work c.loop-s.invariant (sym c.is_seed.ensures ∙ w.if-is_seed.false))
    ]

pub loop-k-init : goal.loop-k-init
loop-k-init c =
    looked-none (graph_from c.args.graph.words.now) c.states-n.result c.loop-t.work c.pop.new.self c.in-Some.t c.loop-t.invariant c.pop.ensures.seen
    c.in-Some.ensures.waiting c.in-Some.ensures.taken.0

pub loop-t-smaller : goal.loop-t-smaller
loop-t-smaller c =
    let b = c.loop-k.invariant.balance in
    let l = c.loop-k.invariant.len in
    let k = c.loop-t.invariant.len in
    let m = taken-fewer c.loop-t.work c.pop.new.self c.in-Some.t c.in-Some.ensures.waiting in
    let a = ap count c.pop.ensures.seen in
    omega (arith, count-length c.loop-k.work.seen, count-length c.loop-t.work.seen)

pub loop-t-preserved : goal.loop-t-preserved
loop-t-preserved c =
    let n = c.states-n.ensures in
    let l = from-length c.args.graph.words.now in
    looked-all (graph_from c.args.graph.words.now) c.states-n.result c.in-Some.t (8 * c.loop-k.k) c.pop.new.self c.loop-k.work c.loop-k.invariant (omega arith)

pub loop-b-preserved : goal.loop-b-preserved
loop-b-preserved c =
    let g = graph_from c.args.graph.words.now in
    let p = 8 * c.loop-k.k + c.loop-b.b in
    let small : p < most_states = omega arith in
    let one : p + 1 ≡ 8 * c.loop-k.k + (c.loop-b.b + 1) = omega arith in
    let low = c.in-Some.ensures.taken.1 in
    let e : c.test_bit.result ≡ leads (state_of g p) c.in-Some.t =
    bit-of c.parents-from.result c.in-Some.t c.loop-k.k c.loop-b.b c.test_bit.result c.loop-b-test.true c.test_bit.ensures
    ∙ c.parents-from.ensures c.in-Some.t p (omega arith) small
    in
    elim c.if-test_bit.branch [
      | then-test_bit w ↦
          rw (w.work-is, w.push-then-test_bit.ensures)
          (subst (λ (q : ℕ). Looked g c.states-n.result c.in-Some.t q c.loop-k.work (pushed c.loop-b.work p)) one
          (looked-more g c.states-n.result c.in-Some.t p c.loop-k.work c.loop-b.work c.loop-b.invariant small (sym e ∙ w.if-test_bit.true)))
      | else-test_bit w ↦
          rw w.work-is
          (subst (λ (q : ℕ). Looked g c.states-n.result c.in-Some.t q c.loop-k.work c.loop-b.work) one
          (looked-skip g c.states-n.result c.in-Some.t p c.loop-k.work c.loop-b.work c.loop-b.invariant (sym e ∙ w.if-test_bit.false)))
    ]

pub loop-k-preserved : goal.loop-k-preserved
loop-k-preserved c =
    let g = graph_from c.args.graph.words.now in
    let n = c.states-n.result in
    let t = c.in-Some.t in
    let low = c.in-Some.ensures.taken.1 in
    elim c.if-byte-ne0.branch [
      | then-byte-ne0+else-loop-b-test w ↦
          let e : 8 * c.loop-k.k + w.loop-b.b ≡ 8 * (c.loop-k.k + 1) = let a = w.loop-b-test.false in let b = w.loop-b.auto.b-end in omega arith in
          rw w.work-is
          (subst (λ (q : ℕ). Looked g n t q c.pop.new.self w.loop-b.work) e
          (looked-on g n t (8 * c.loop-k.k) (8 * c.loop-k.k + w.loop-b.b) c.pop.new.self c.loop-k.work w.loop-b.work c.loop-k.invariant w.loop-b.invariant))
      | else-byte-ne0 w ↦
          let e : 8 * c.loop-k.k + (8 - (8 * c.loop-k.k) % 8) ≡ 8 * (c.loop-k.k + 1) = omega arith in
          let at : 128 * t + c.loop-k.k ≡ byte_of t (8 * c.loop-k.k) = omega arith in
          rw w.work-is
          (subst (λ (q : ℕ). Looked g n t q c.pop.new.self c.loop-k.work) e
          (looked-byte g n t (8 * c.loop-k.k) c.pop.new.self c.loop-k.work c.loop-k.invariant c.parents-from.result (λ t p h b. c.parents-from.ensures t p h b)
          (omega arith) (omega arith) (sym (ap (λ (i : ℕ). get_or c.parents-from.result i 0) at) ∙ w.if-byte-ne0.false)))
    ]

pub returns : goal.returns
returns c =
    let g = graph_from c.args.graph.words.now in
    let n = c.states-n.ensures in
    let l = from-length c.args.graph.words.now in
    let few = taken-few c.args.graph.words.now c.args.graph.fits in
    c.seen.ensures
    ∙ c.pop.ensures.seen
    ∙ search-done g c.loop-t.work c.loop-t.invariant.len (omega arith) c.in_default.ensures.waiting c.loop-t.invariant.search
    (λ s h x. c.loop-t.invariant.seeds s (omega arith) x)
    ∙ ap (λ (k : ℕ). kept g ++ replicate (most_states - k) false) l
