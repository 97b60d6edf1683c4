-- A covered state loses its accept, any other keeps its marks. Assumes nothing.
use Rattle.std.specs.Prelude.{Option, unwrap_or}
use Rattle.std.proofs.Common.{◌≡◌, ℕ, ◌+◌, Bool, true, false, cond, get_or, set, sym, ap, subst, ◌∙◌, arith, rules}
use Rattle.std.proofs.lemmas.Option.{IfSome_then}
use borrow.Author.Tests.{not-true, not-false}
use Rattle.graph_rules.specs.Graph.{graph_from}
use Rattle.graph_rules.specs.Build.{covered}
use Rattle.graph_rules.specs.Layout.{marks_place, graph_place, no_leaf, marks_word, early_in}
use Rattle.graph_rules.proofs.Taken.{taken-long}
use Rattle.words.proofs.GraphWords.{early-is}
use Rattle.words.proofs.Marking.{Marked, marked-none, marked_more, marked-keep, marked-count, marked-later, marked-fits}
use Rattle.clear.proofs.Marks.{mark, all-marked}
use Rattle.clear.proofs.clear.Goals as goal
use Rattle.clear.proofs.clear.Goals.{then-not-lasting-s, else-not-lasting-s}

pub loop-s-init : goal.loop-s-init
loop-s-init c = (marked-none _ _, λ i. search rules)

pub invariant_of-early : goal.invariant_of-early
invariant_of-early c = record { fits = marked-fits c.args.graph.now c.requires (mark c.args.graph.now) c.loop-s.s c.loop-s.graph c.loop-s.invariant.0 }

pub early-leaf-requires : goal.early-leaf-requires
early-leaf-requires c =
    let m = marked-count c.args.graph.now c.requires (mark c.args.graph.now) c.loop-s.s c.loop-s.graph c.loop-s.invariant.0 in
    let e = c.states-n.ensures.0 in
    omega arith

pub set_marks-requires-clause-marks_place_in_bounds : goal.set_marks-requires-clause-marks_place_in_bounds
set_marks-requires-clause-marks_place_in_bounds c =
    let m = c.loop-s.invariant.0.len in
    let e = c.states-n.ensures.0 in
    omega (arith, taken-long c.args.graph.now c.requires)

pub set_marks-requires-clause-accept_le_no_leaf : goal.set_marks-requires-clause-accept_le_no_leaf
set_marks-requires-clause-accept_le_no_leaf c =
    (search rules, IfSome_then c.early-leaf.result c.early-leaf.ensures.leaf (λ l h. omega arith))

pub loop-s-preserved : goal.loop-s-preserved
loop-s-preserved c =
    let w = c.args.graph.now in
    let s = c.loop-s.s in
    let m = c.loop-s.invariant.0 in
    let e = c.states-n.ensures.0 in
    let flag = c.uncovered-lasting.ensures s (omega arith) in
    let x = get_or w (graph_place s marks_place) 0 in
    let now : get_or c.loop-s.graph 0 0 ≡ get_or w 0 0 = marked-count w c.requires (mark w) s c.loop-s.graph m in
    elim c.if-not-lasting-s.branch [
      | then-not-lasting-s v ↦
          let off : covered (graph_from w) s ≡ true = not-false _ (sym flag ∙ v.if-not-lasting-s.true) in
          let early =
          ap (λ (o : Option ℕ). unwrap_or o no_leaf) v.early-leaf.ensures.value
          ∙ early-is c.loop-s.graph (marked-fits w c.requires (mark w) s c.loop-s.graph m) s (omega arith)
          in
          let here = marked-later w c.requires (mark w) s c.loop-s.graph m s (omega arith) in
          let word : marks_word no_leaf (unwrap_or v.early-leaf.result no_leaf) ≡ marks_word no_leaf (early_in x) = omega arith in (
            subst (Marked w (mark w) (s + 1))
                (sym (v.graph-is ∙ v.set_marks.ensures ∙ ap (set c.loop-s.graph (graph_place s marks_place)) (word ∙ ap (λ (b : Bool). cond b (marks_word no_leaf (early_in x)) x) (sym off))))
                (marked_more w (mark w) s c.loop-s.graph (omega (arith, taken-long w c.requires)) m),
            c.loop-s.invariant.1,
          )
      | else-not-lasting-s v ↦
          let on : covered (graph_from w) s ≡ false = not-true _ (sym flag ∙ v.if-not-lasting-s.false) in (
            subst (Marked w (mark w) (s + 1)) (sym v.graph-is)
                (marked-keep w (mark w) s c.loop-s.graph (ap (λ (b : Bool). cond b (marks_word no_leaf (early_in x)) x) (sym on)) m),
            c.loop-s.invariant.1,
          )
    ]

pub returns-clause-graph_after : goal.returns-clause-graph_after
returns-clause-graph_after c =
    all-marked c.args.graph.now c.requires c.loop-s.s c.loop-s.graph c.loop-s.invariant.0 c.loop-s.invariant.1
    (let e = c.states-n.ensures.0 in let d = c.loop-s.auto.s-end in omega arith)

pub returns-clause-graph_after_2 : goal.returns-clause-graph_after_2
returns-clause-graph_after_2 c = marked-fits c.args.graph.now c.requires (mark c.args.graph.now) c.loop-s.s c.loop-s.graph c.loop-s.invariant.0
