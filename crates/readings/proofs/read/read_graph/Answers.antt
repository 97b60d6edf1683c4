-- 12, or the reading. Assumes nothing.
use Rattle.std.proofs.Common.{List, ℕ, sym, ap, Ok, Err, ◌∙◌}
use Rattle.std.proofs.lemmas.Result.{err_from_is_err_and}
use Rattle.graph_rules.specs.Graph.{graph_from}
use Rattle.graph_rules.specs.Read.{read_graph}
use Rattle.readings.proofs.Answering.{graph-refused, graph-answered}
use Rattle.readings.proofs.read.read_graph.Goals as goal

pub returns-in_err-graph : goal.returns-in_err-graph
returns-in_err-graph c =
    let p = err_from_is_err_and c.from_residual.result c.from_residual.ensures.1 in
    let e = c.in_err-graph.ensures in
    p.1 ∙ ap Err (p.2 ∙ e.0) ∙ sym (graph-refused c.args.graph.now c.args.text.now e.1)

pub returns : goal.returns
returns c =
    let e = c.in_ok-graph.ensures in
    ap Ok (c.reading.ensures ∙ c.read.ensures ∙ ap (λ (w : List ℕ). read_graph (graph_from w) c.args.text.now) e.0)
    ∙ sym (graph-answered c.args.graph.now c.args.text.now e.1)
