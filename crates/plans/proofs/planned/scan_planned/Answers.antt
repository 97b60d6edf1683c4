-- A refusal with everything unchanged; or the graph is prepared once, and the entries from the scan's offset on are read by the plan.
use Rattle.std.proofs.Common.{sym, ap, ◌∙◌, List, ℕ}
use Rattle.scans.specs.List.{list_from}
use Rattle.scans.proofs.ListAnswers.{both}
use Rattle.plans.proofs.Running.{runs-alike}
use Rattle.plans.proofs.PlannedScans.{past-at, planned-in, ready, planned-list}
use Rattle.plans.proofs.planned.scan_planned.Goals as goal

pub invariant_of-legal : goal.invariant_of-legal
invariant_of-legal c = record { fits = (ready c.args.graph.now c.args.plan.now c.args.store c.args.text.now c.args.scan c.args.out.now c.in-Ok.ensures.0).fits }

pub ready-planned-requires-clause-plan : goal.ready-planned-requires-clause-plan
ready-planned-requires-clause-plan c =
    let r = (ready c.args.graph.now c.args.plan.now c.args.store c.args.text.now c.args.scan c.args.out.now c.in-Ok.ensures.0) in
    sym (planned-in c.args.graph.now c.args.plan.now c.args.store c.args.text.now c.args.scan r.fits r.inside) ∙ c.in-Ok.ensures.0

-- every text is run as it is walked, and the runner has these words and tables
pub invariant_of-reader : goal.invariant_of-reader
invariant_of-reader c =
    let r = (ready c.args.graph.now c.args.plan.now c.args.store c.args.text.now c.args.scan c.args.out.now c.in-Ok.ensures.0) in
    let e = c.ready-planned.ensures in
    record { alike = rw (e.graph, e.plan, e.tables) (runs-alike c.args.graph.now c.args.plan.now c.args.store r.fits r.plan) }

pub fill-requires : goal.fill-requires
fill-requires c = past-at c.args.text.now c.args.scan.place _ c.in-Ok.ensures.1 (ready c.args.graph.now c.args.plan.now c.args.store c.args.text.now c.args.scan c.args.out.now c.in-Ok.ensures.0).inside

pub returns-in-Ok-clause-listed : goal.returns-in-Ok-clause-listed
returns-in-Ok-clause-listed c =
    c.fill.ensures.listed
    ∙ ap (λ (w : List ℕ). (list_from w c.args.text.now c.in-Ok.at c.args.out.now).listed) c.ready-planned.ensures.graph
    ∙ (both (planned-list c.args.graph.now c.args.plan.now c.args.store c.args.text.now c.args.scan c.args.out.now c.in-Ok.ensures.0 c.in-Ok.at c.in-Ok.ensures.1)).0

pub returns-in-Ok-clause-buffer : goal.returns-in-Ok-clause-buffer
returns-in-Ok-clause-buffer c =
    c.fill.ensures.buffer
    ∙ ap (λ (w : List ℕ). (list_from w c.args.text.now c.in-Ok.at c.args.out.now).buffer) c.ready-planned.ensures.graph
    ∙ (both (planned-list c.args.graph.now c.args.plan.now c.args.store c.args.text.now c.args.scan c.args.out.now c.in-Ok.ensures.0 c.in-Ok.at c.in-Ok.ensures.1)).1
