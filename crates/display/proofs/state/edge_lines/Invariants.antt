-- The lines of the targets below u are written, and those from there on are to come. Assumes nothing.
use lib.ListN.{get_or}
use Rattle.texts.proofs.Writing.{Underway}
use Rattle.graph_rules.specs.Graph.{state_of, graph_from}
use Rattle.display.proofs.Lines.{lined}
use Rattle.display.proofs.state.edge_lines.Given as goal

abbrev pub invariant-loop-u : goal.invariant-loop-u
invariant-loop-u l =
    let w = l.graph.words.now in
    let st = state_of (graph_from w) l.s in
    Underway l.fn.out l.at (lined st (get_or w 0 0) 0) (lined st (get_or w 0 0) l.u) l.out l.next
