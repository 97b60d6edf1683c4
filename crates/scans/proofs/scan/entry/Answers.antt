-- A reading ends in the text. Assumes nothing.
use Rattle.std.proofs.Common.{arith, ◌∙◌}
use Rattle.graph_rules.specs.Graph.{graph_from}
use Rattle.scans.proofs.Entries.{part-is, token-within}
use Rattle.scans.proofs.scan.entry.Goals as goal

pub entry_by-requires-clause-end_in_bounds : goal.entry_by-requires-clause-end_in_bounds
entry_by-requires-clause-end_in_bounds g c =
    rw (c.reading.ensures ∙ c.read.ensures, part-is c.args.text.now c.args.at)
    (token-within (graph_from (g.R.Reader.words c.args.reader.now)) c.args.text.now c.args.at (omega (arith, c.requires)))
