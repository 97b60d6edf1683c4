-- 1 to 7; else no start or a leaf that can be empty, which belong to no state; else the verdict. Assumes nothing.
use Rattle.std.specs.Prelude.{Ok, Err}
use mathlib.Core.Path.{◌≡◌, refl, sym, ap, ◌∙◌}
use mathlib.Core.List.{[]}
use lib.ListN.{length}
use Rattle.std.proofs.lemmas.Result.{err_from_is_err_and}
use Rattle.lists.proofs.Elements.{length-nil}
use Rattle.graph_rules.specs.Table.{table_of, refusal}
use Rattle.graph_rules.specs.Build.{empty_leaves}
use Rattle.graph_rules.specs.Layout.{no_state}
use Rattle.clean.specs.Answers.{clean_of}
use Rattle.clean.proofs.Breaches.{error-no-start, error-empty, breaks-first, clean-refused, clean-answered}
use Rattle.clean.proofs.clean.Goals as goal

pub returns-in_err-table : goal.returns-in_err-table
returns-in_err-table c =
    let e = c.in_err-table.ensures in
    let p = err_from_is_err_and c.from_residual.result c.from_residual.ensures.1 in
    rw (p.1, p.2) (ap Err e.0 ∙ sym (clean-refused c.args.table.now (refusal c.args.table.now) refl e.1))

pub returns-in_default : goal.returns-in_default
returns-in_default c =
    let t = c.in_ok-table.table in
    let e = c.in_ok-table.ensures in
    let n : empty_leaves (table_of t.words.now) ≡ [] → ⊥ = λ q. c.if-count_empty-eq0.false (c.count_empty.ensures ∙ ap length q) in
    ap Ok (sym (breaks-first (table_of t.words.now) no_state (error-empty (table_of t.words.now) c.in-Some.s (sym c.in-Some.ensures.value) n)))
    ∙ sym (clean-answered t.words.now t.legal)
    ∙ ap clean_of e.0

pub returns-in_default-2 : goal.returns-in_default-2
returns-in_default-2 c =
    let t = c.in_ok-table.table in
    let e = c.in_ok-table.ensures in
    ap Ok (sym (breaks-first (table_of t.words.now) no_state (error-no-start (table_of t.words.now) (sym c.in_default.ensures.value))))
    ∙ sym (clean-answered t.words.now t.legal)
    ∙ ap clean_of e.0

pub judged-requires-clause-start : goal.judged-requires-clause-start
judged-requires-clause-start c = sym c.in-Some.ensures.value

pub judged-requires-clause-none_empty : goal.judged-requires-clause-none_empty
judged-requires-clause-none_empty c = length-nil _ (sym c.count_empty.ensures ∙ c.if-count_empty-eq0.true)

pub returns-in-Some : goal.returns-in-Some
returns-in-Some c =
    let t = c.in_ok-table.table in
    let e = c.in_ok-table.ensures in
    ap Ok c.judged.ensures ∙ sym (clean-answered t.words.now t.legal) ∙ ap clean_of e.0
