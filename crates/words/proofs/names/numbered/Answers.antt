-- A member gets the next number. Assumes nothing.
use Rattle.std.proofs.Common.{◌≡◌, ℕ, subst, arith}
use Rattle.graph_rules.specs.Layout.{most_states}
use Rattle.words.proofs.Naming.{Numbered, numbered-none, numbered-low, numbered-in, numbered-out, numbered-all}
use Rattle.words.proofs.names.numbered.Goals as goal
use Rattle.words.proofs.names.numbered.Goals.{then-set-s, else-set-s}

pub loop-s-init : goal.loop-s-init
loop-s-init c = numbered-none _

pub overflow_cast-out : goal.overflow_cast-out
overflow_cast-out c = let h = numbered-low c.args.set.now c.loop-s.s c.loop-s.k c.loop-s.out c.loop-s.invariant in omega arith

pub overflow_add-k : goal.overflow_add-k
overflow_add-k c = let h = numbered-low c.args.set.now c.loop-s.s c.loop-s.k c.loop-s.out c.loop-s.invariant in omega arith

pub loop-s-preserved : goal.loop-s-preserved
loop-s-preserved c =
    elim c.if-set-s.branch [
      | then-set-s w ↦
          rw (w.out-is, w.k-is) (numbered-in c.args.set.now c.loop-s.s c.loop-s.k c.loop-s.out c.loop-s.invariant c.loop-s-test.true w.if-set-s.true)
      | else-set-s w ↦ rw (w.out-is, w.k-is) (numbered-out c.args.set.now c.loop-s.s c.loop-s.k c.loop-s.out c.loop-s.invariant w.if-set-s.false)
    ]

pub returns : goal.returns
returns c =
    let e : c.loop-s.s ≡ most_states = let a = c.loop-s-test.false in let b = c.loop-s.auto.s-end in omega arith in
    numbered-all c.args.set.now c.loop-s.k c.loop-s.out (omega arith) (subst (λ (s : ℕ). Numbered c.args.set.now s c.loop-s.k c.loop-s.out) e c.loop-s.invariant)
