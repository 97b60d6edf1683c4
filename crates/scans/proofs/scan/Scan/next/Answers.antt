-- 12, or the scan's answer. Assumes nothing.
use Rattle.std.proofs.Common.{List, ℕ, sym, ap, ◌∙◌}
use Rattle.graph_rules.specs.Graph.{graph_from}
use Rattle.scans.specs.Scan.{scan_of}
use Rattle.scans.proofs.Entries.{next-refused, next-taken}
use Rattle.scans.proofs.scan.Scan.next.Goals as goal

pub returns-in-Ok : goal.returns-in-Ok
returns-in-Ok c =
    let e = c.in-Ok.ensures in
    c.step.ensures
    ∙ ap (λ (w : List ℕ). scan_of (graph_from w) c.args.text.now c.args.self) e.0
    ∙ sym (next-taken c.args.graph.now c.args.text.now c.args.self e.1)

pub returns-in-Err : goal.returns-in-Err
returns-in-Err c =
    let e = c.in-Err.ensures in
    c.refused.ensures ∙ rw e.0 (sym (next-refused c.args.graph.now c.args.text.now c.args.self e.1))
