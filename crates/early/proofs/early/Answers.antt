-- A state gets its early leaf beside its accept. Assumes nothing.
use Rattle.std.specs.Prelude.{Option, unwrap_or}
use Rattle.std.proofs.Common.{◌≡◌, ℕ, ◌<◌, get_or, ap, ◌∙◌, arith, rules}
use Rattle.std.proofs.lemmas.Option.{IfSome_then}
use Rattle.graph_rules.specs.Layout.{no_leaf, marks_word}
use Rattle.graph_rules.proofs.Taken.{taken-long}
use Rattle.words.proofs.GraphWords.{accept-is}
use Rattle.words.proofs.Marking.{marked-none, marked_more, marked-count, marked-later, marked-fits}
use Rattle.early.proofs.Marks.{mark, still, all-marked}
use Rattle.early.proofs.early.Goals as goal

pub loop-s-init : goal.loop-s-init
loop-s-init c = (marked-none _ _, λ i. search rules)

pub invariant_of-now : goal.invariant_of-now
invariant_of-now c = record { fits = marked-fits c.args.graph.now c.requires (mark c.args.graph.now) c.loop-s.s c.loop-s.graph c.loop-s.invariant.0 }

pub agreed_leaf-leaf-requires : goal.agreed_leaf-leaf-requires
agreed_leaf-leaf-requires c =
    let m = marked-count c.args.graph.now c.requires (mark c.args.graph.now) c.loop-s.s c.loop-s.graph c.loop-s.invariant.0 in
    let e = c.states-n.ensures.0 in
    omega arith

pub set_marks-requires-clause-marks_place_in_bounds : goal.set_marks-requires-clause-marks_place_in_bounds
set_marks-requires-clause-marks_place_in_bounds c =
    let m = c.loop-s.invariant.0.len in
    let e = c.states-n.ensures.0 in
    omega (arith, taken-long c.args.graph.now c.requires)

pub set_marks-requires-clause-accept_le_no_leaf : goal.set_marks-requires-clause-accept_le_no_leaf
set_marks-requires-clause-accept_le_no_leaf c =
    (IfSome_then c.accept-own.result c.accept-own.ensures.leaf (λ l h. omega arith), IfSome_then c.agreed_leaf-leaf.result c.agreed_leaf-leaf.ensures.leaf (λ l h. omega arith))

pub loop-s-preserved : goal.loop-s-preserved
loop-s-preserved c =
    let w = c.args.graph.now in
    let s = c.loop-s.s in
    let m = c.loop-s.invariant.0 in
    let taken = c.requires in
    let e = c.states-n.ensures.0 in
    let h : s < get_or w 0 0 = omega arith in
    let now : get_or c.loop-s.graph 0 0 ≡ get_or w 0 0 = marked-count w taken (mark w) s c.loop-s.graph m in
    let own =
    ap (λ (o : Option ℕ). unwrap_or o no_leaf) c.accept-own.ensures.value
    ∙ accept-is c.loop-s.graph (marked-fits w taken (mark w) s c.loop-s.graph m) s (omega arith)
    in
    let here = marked-later w taken (mark w) s c.loop-s.graph m s (omega arith) in
    let leaf =
    ap (λ (o : Option ℕ). unwrap_or o no_leaf) (c.agreed_leaf-leaf.ensures.value ∙ still w taken s c.loop-s.graph m h)
    in
    let word : mark w s ≡ marks_word (unwrap_or c.accept-own.result no_leaf) (unwrap_or c.agreed_leaf-leaf.result no_leaf) = omega arith in
    (rw (c.set_marks.ensures, ← word) (marked_more w (mark w) s c.loop-s.graph (omega (arith, taken-long w taken)) m), c.loop-s.invariant.1)

pub returns-clause-graph_after : goal.returns-clause-graph_after
returns-clause-graph_after c =
    all-marked c.args.graph.now c.requires c.loop-s.s c.loop-s.graph c.loop-s.invariant.0 c.loop-s.invariant.1
    (let e = c.states-n.ensures.0 in let d = c.loop-s.auto.s-end in omega arith)

pub returns-clause-graph_after_2 : goal.returns-clause-graph_after_2
returns-clause-graph_after_2 c = marked-fits c.args.graph.now c.requires (mark c.args.graph.now) c.loop-s.s c.loop-s.graph c.loop-s.invariant.0
