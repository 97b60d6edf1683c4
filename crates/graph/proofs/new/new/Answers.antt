-- The refusals in order, then rule 1 or rules 2 to 8. Assumes nothing.
use Rattle.std.proofs.Common.{ℕ, List, get_or, refl, sym, ap, ◌∙◌, arith}
use Rattle.std.proofs.lemmas.Result.{err_from_is_err_and}
use Rattle.graph_rules.specs.Table.{table_of}
use Rattle.graph.specs.New.{new_of}
use Rattle.graph.proofs.Building.{build-none, build-empty, build-states, new-refused, new-short, new-built}
use Rattle.graph.proofs.new.new.Goals as goal

pub returns-in_err-table : goal.returns-in_err-table
returns-in_err-table c =
    let p = err_from_is_err_and c.from_residual.result c.from_residual.ensures.1 in
    rw (p.1, p.2, c.in_err-table.ensures.0) (new-refused c.args.table.now c.args.graph.now c.args.errors.now _ refl c.in_err-table.ensures.1)

pub returns-then-graph-place : goal.returns-then-graph-place
returns-then-graph-place c =
    let e = c.place.ensures in
    let n = c.states.ensures.0 in
    new-short c.args.table.now c.args.graph.now c.args.errors.now c.in_ok-table.ensures.1 c.states.result
    (n ∙ ap (λ (w : List ℕ). get_or w 0 0) c.in_ok-table.ensures.0) (omega arith)

pub returns-in_default : goal.returns-in_default
returns-in_default c =
    let w = c.in_ok-table.table.words.now in
    let e = c.place.ensures in
    let n = c.states.ensures.0 in
    c.without_start.ensures
    ∙ new-built w c.args.graph.now c.args.errors.now c.in_ok-table.table.legal (get_or w 0 0) refl (omega arith) _ (build-none (table_of w) (sym c.start.ensures.value ∙ c.in_default.is))
    ∙ ap (λ (w : List ℕ). new_of w c.args.graph.now c.args.errors.now) c.in_ok-table.ensures.0

pub returns-then-count-ne0 : goal.returns-then-count-ne0
returns-then-count-ne0 c =
    let w = c.in_ok-table.table.words.now in
    let e = c.place.ensures in
    let n = c.states.ensures.0 in
    c.with_empty.ensures
    ∙ new-built w c.args.graph.now c.args.errors.now c.in_ok-table.table.legal (get_or w 0 0) refl (omega arith) _
    (build-empty (table_of w) c.in-Some.start (sym c.start.ensures.value ∙ c.in-Some.is) (λ z. c.if-count-ne0.true (c.count_empty-count.ensures ∙ z)))
    ∙ ap (λ (w : List ℕ). new_of w c.args.graph.now c.args.errors.now) c.in_ok-table.ensures.0

pub returns : goal.returns
returns c =
    let w = c.in_ok-table.table.words.now in
    let e = c.place.ensures in
    let n = c.states.ensures.0 in
    c.with_states.ensures
    ∙ new-built w c.args.graph.now c.args.errors.now c.in_ok-table.table.legal (get_or w 0 0) refl (omega arith) _
    (build-states (table_of w) c.in-Some.start (sym c.start.ensures.value ∙ c.in-Some.is) (sym c.count_empty-count.ensures ∙ c.if-count-ne0.false))
    ∙ ap (λ (w : List ℕ). new_of w c.args.graph.now c.args.errors.now) c.in_ok-table.ensures.0
