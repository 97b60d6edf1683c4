-- What is written, and what repeated calls would still give, are together the whole list.
use Rattle.graph_rules.specs.Graph.{graph_from}
use Rattle.scans.proofs.Filling.{Filling}
use Rattle.scans.proofs.list.fill.Given as goal

abbrev pub invariant-loop-n : goal.invariant-loop-n
invariant-loop-n g l = Filling (graph_from (g.R.Reader.words l.reader)) l.text l.from l.room l.initial.out l.out l.n l.at
