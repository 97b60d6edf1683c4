-- 1 to 7, or the reading. Assumes nothing.
use Rattle.std.proofs.Common.{List, ℕ, sym, ap, refl, Ok, Err, ◌∙◌}
use Rattle.std.proofs.lemmas.Result.{err_from_is_err_and}
use Rattle.graph_rules.specs.Table.{table_of}
use Rattle.graph_rules.specs.Read.{read_table}
use Rattle.readings.proofs.Answering.{table-refused, table-answered}
use Rattle.readings.proofs.read_table.read_table.Goals as goal

pub returns-in_err-table : goal.returns-in_err-table
returns-in_err-table c =
    let p = err_from_is_err_and c.from_residual.result c.from_residual.ensures.1 in
    let e = c.in_err-table.ensures in
    p.1 ∙ ap Err (p.2 ∙ e.0) ∙ sym (table-refused c.args.table.now c.args.text.now _ refl e.1)

pub returns : goal.returns
returns c =
    let e = c.in_ok-table.ensures in
    ap Ok (c.read.ensures ∙ ap (λ (w : List ℕ). read_table (table_of w) c.args.text.now) e.0)
    ∙ sym (table-answered c.args.table.now c.args.text.now e.1)
