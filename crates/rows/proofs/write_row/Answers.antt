-- Each turn writes the row's next word, and the marks are its last. Assumes nothing.
use Rattle.std.specs.Prelude.{Option, unwrap_or}
use mathlib.Core.Path.{◌≡◌, sym, ap, ◌∙◌}
use mathlib.Core.List.{List}
use Prim.Native.Nat.{ℕ, ◌+◌}
use native.Mathlib.Omega.{arith}
use lib.ListN.{length, get_or, set, take}
use lib.Seq.{sets, take_all}
use Rattle.lists.proofs.Runs.{sets-take}
use Rattle.graph_rules.specs.Table.{table_of}
use Rattle.graph_rules.specs.Layout.{row_words, marks_place, graph_place, no_state, no_leaf, marks_word}
use Rattle.legal.proofs.Legal.{legal-sized}
use Rattle.legal.proofs.Views.{few-states}
use Rattle.std.proofs.Common.{rules}
use Rattle.std.proofs.lemmas.Option.{IfSome_then}
use Rattle.graph_rules.proofs.Shape.{few-leaves}
use Rattle.rows.specs.Renumbering.{new_target, new_row}
use Rattle.rows.proofs.NewRows.{row-length, row_target, row-marks}
use Rattle.rows.proofs.write_row.Goals as goal

pub new_target-requires : goal.new_target-requires
new_target-requires c = let z = few-states _ c.args.table.legal in let b = c.steps-steps.ensures.states c.loop-c.c in omega arith

pub loop-c-preserved : goal.loop-c-preserved
loop-c-preserved c =
    let w = c.args.table.words.now in
    let names = c.args.names.now in
    let row = new_row (table_of w) names c.args.s in
    let l : length row ≡ row_words = row-length w (legal-sized w c.args.table.legal) names c.args.s c.requires.s_bound in
    let word : unwrap_or c.new_target.result no_state ≡ get_or row c.loop-c.c 0 =
    ap (λ (o : Option ℕ). unwrap_or o no_state) (c.new_target.ensures ∙ ap (λ (l : List ℕ). new_target names (get_or l c.loop-c.c 0)) c.steps-steps.ensures.targets)
    ∙ sym (row_target w (legal-sized w c.args.table.legal) names c.args.s c.requires.s_bound c.loop-c.c (omega arith)) in
    c.set_target.ensures
    ∙ (λ i. set (c.loop-c.invariant i) (graph_place c.args.k c.loop-c.c) (word i))
    ∙ sets-take c.args.graph.now (graph_place c.args.k 0) row c.loop-c.c 0 _ (omega arith) (omega arith)

pub set_marks-requires-clause-accept_le_no_leaf : goal.set_marks-requires-clause-accept_le_no_leaf
set_marks-requires-clause-accept_le_no_leaf c =
    let few = few-leaves c.args.table.words.now c.args.table.legal in
    (IfSome_then c.leaf_of.result c.leaf_of.ensures.leaf (λ l h. omega arith), search rules)

pub returns : goal.returns
returns c =
    let w = c.args.table.words.now in
    let names = c.args.names.now in
    let g = c.args.graph.now in
    let p = graph_place c.args.k 0 in
    let row = new_row (table_of w) names c.args.s in
    let l : length row ≡ row_words = row-length w (legal-sized w c.args.table.legal) names c.args.s c.requires.s_bound in
    let last : c.loop-c.c ≡ marks_place = omega arith in
    let marks : marks_word (unwrap_or c.leaf_of.result no_leaf) no_leaf ≡ get_or row marks_place 0 =
    ap (λ (x : ℕ). marks_word x no_leaf) (ap (λ (o : Option ℕ). unwrap_or o no_leaf) c.leaf_of.ensures.value)
    ∙ sym (row-marks w (legal-sized w c.args.table.legal) names c.args.s c.requires.s_bound) in
    c.set_marks.ensures
    ∙ (λ i. set ((c.loop-c.invariant ∙ ap (λ (c : ℕ). sets g p (take c row)) last) i) (graph_place c.args.k marks_place) (marks i))
    ∙ sets-take g p row marks_place 0 _ (omega arith) (omega arith)
    ∙ ap (sets g p) (take_all (marks_place + 1) row (omega arith))
