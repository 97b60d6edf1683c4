-- Zeros from the front. Assumes nothing.
use Rattle.std.proofs.Common.{get_or, ◌∙◌, arith}
use Rattle.graph.proofs.Written.{blank-words}
use Rattle.graph.proofs.new.no_states.Goals as goal

pub returns : goal.returns
returns c =
    let e = c.place.ensures in
    let n = c.states.ensures.0 in
    c.zero.ensures ∙ blank-words (get_or c.args.table.words.now 0 0) c.args.graph.now c.place.result (omega arith) (omega arith)
