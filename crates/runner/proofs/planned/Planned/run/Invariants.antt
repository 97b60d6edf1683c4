-- The run that is left, with the record so far, is the whole run; the measure is what is left of the text.
use Rattle.std.proofs.Common.{◌≡◌, ◌<◌, ◌≤◌, ◌-◌, length, get_or, None}
use Rattle.graph_rules.specs.Graph.{graph_from}
use Rattle.plan_rules.specs.Plan.{base}
use Rattle.plan_rules.specs.Run.{run_from, rows_of}
use Rattle.runner.proofs.Running.{rest}
use Rattle.runner.proofs.planned.Planned.run.Given as goal

abbrev pub invariant-loop-last : goal.invariant-loop-last
invariant-loop-last l =
    (l.s < get_or l.self.graph.words.now 0 0) × (l.k ≤ length l.text)
    × (rest l.self.graph.words.now l.self.plan.now l.self.tables.now l.text l.s l.k l.last
    ≡ run_from (graph_from l.self.graph.words.now) (rows_of base (graph_from l.self.graph.words.now) l.self.plan.now) l.self.tables.now (graph_from l.self.graph.words.now).root 0 None l.text)

abbrev pub decreases-loop-last : goal.decreases-loop-last
decreases-loop-last l = length l.text - l.k
