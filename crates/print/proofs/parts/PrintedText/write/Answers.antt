-- The graph's text and a line end, and the conflicts' lines; or the line of a refusal. Assumes nothing.
use Rattle.std.proofs.Common.{◌++◌}
use Rattle.texts.specs.Text.{bytes, decimal}
use Rattle.texts.proofs.Writing.{wrote_then, counts-first, counts-then}
use Rattle.refusals.specs.Refusals.{number}
use Rattle.graph_rules.specs.Graph.{graph_from}
use Rattle.display.specs.Display.{displayed}
use Rattle.print.specs.Print.{line, refused_line}
use Rattle.print.specs.Parts.{error_lines, words_text}
use Rattle.print.proofs.parts.PrintedText.write.Goals as goal

pub line-next-requires : goal.line-next-requires
unfolding words_text
line-next-requires c =
    let h = rw c.in-Built.is at c.requires in
    counts-first c.args.at (line (displayed (graph_from c.in-Built.graph.words.now))) (error_lines c.in-Built.conflicts.count c.in-Built.conflicts.words.now) h

pub write-requires : goal.write-requires
unfolding words_text
write-requires c =
    let h = rw c.in-Built.is at c.requires in
    counts-then c.args.at (line (displayed (graph_from c.in-Built.graph.words.now))) (error_lines c.in-Built.conflicts.count c.in-Built.conflicts.words.now) h
    c.line-next.ensures

pub numbered-end-requires : goal.numbered-end-requires
unfolding refused_line
numbered-end-requires c =
    let h = rw c.in-Refused.is at c.requires in
    rw c.from.ensures (counts-first c.args.at (bytes "refused " ++ decimal (number c.in-Refused.refusal)) (bytes "\n") h)

pub byte-requires : goal.byte-requires
unfolding refused_line
byte-requires c =
    let h = rw c.in-Refused.is at c.requires in
    counts-then c.args.at (bytes "refused " ++ decimal (number c.in-Refused.refusal)) (bytes "\n") h (rw c.from.ensures at c.numbered-end.ensures)

pub returns-in-Built : goal.returns-in-Built
unfolding words_text
returns-in-Built c = rw c.in-Built.is (wrote_then c.line-next.ensures c.write.ensures)

pub returns-in-Refused : goal.returns-in-Refused
unfolding refused_line
returns-in-Refused c = rw c.in-Refused.is (wrote_then (rw c.from.ensures at c.numbered-end.ensures) c.byte.ensures)
