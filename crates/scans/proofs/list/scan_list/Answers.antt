-- A refusal with everything unchanged, or the entries from the scan's offset on. Assumes nothing.
use Rattle.std.proofs.Common.{◌<◌, length, arith, ap, ◌∙◌, List, ℕ}
use Rattle.scans.specs.List.{list_from}
use Rattle.scans.proofs.ListAnswers.{both, list-unfit, list-past, list_over, list-taken}
use Rattle.scans.proofs.list.scan_list.Goals as goal

pub returns-in-Reading-clause-listed : goal.returns-in-Reading-clause-listed
returns-in-Reading-clause-listed c =
    let e = c.in-Ok.ensures in
    c.fill.ensures.listed
    ∙ ap (λ (w : List ℕ). (list_from w c.args.text.now c.in-Reading.at c.args.out.now).listed) e.0
    ∙ (both (list-taken c.args.graph.now c.args.text.now c.args.scan.place c.args.out.now e.1 _ c.in-Reading.is c.if-at-text.true)).0

pub returns-in-Reading-clause-buffer : goal.returns-in-Reading-clause-buffer
returns-in-Reading-clause-buffer c =
    let e = c.in-Ok.ensures in
    c.fill.ensures.buffer
    ∙ ap (λ (w : List ℕ). (list_from w c.args.text.now c.in-Reading.at c.args.out.now).buffer) e.0
    ∙ (both (list-taken c.args.graph.now c.args.text.now c.args.scan.place c.args.out.now e.1 _ c.in-Reading.is c.if-at-text.true)).1

pub returns-in-Err-clause-listed : goal.returns-in-Err-clause-listed
returns-in-Err-clause-listed c =
    let e = c.in-Err.ensures in
    rw e.0 (both (list-unfit c.args.graph.now c.args.text.now c.args.scan.place c.args.out.now e.1)).0

pub returns-in-Err-clause-buffer : goal.returns-in-Err-clause-buffer
returns-in-Err-clause-buffer c = (both (list-unfit c.args.graph.now c.args.text.now c.args.scan.place c.args.out.now c.in-Err.ensures.1)).1

pub returns-in-Reading-2-clause-listed : goal.returns-in-Reading-2-clause-listed
returns-in-Reading-2-clause-listed c =
    let past : length c.args.text.now < c.in-Reading.at = omega (arith, c.if-at-text.false) in
    (both (list-past c.args.graph.now c.args.text.now c.args.scan.place c.args.out.now c.in-Ok.ensures.1 _ c.in-Reading.is past)).0

pub returns-in-Reading-2-clause-buffer : goal.returns-in-Reading-2-clause-buffer
returns-in-Reading-2-clause-buffer c =
    let past : length c.args.text.now < c.in-Reading.at = omega (arith, c.if-at-text.false) in
    (both (list-past c.args.graph.now c.args.text.now c.args.scan.place c.args.out.now c.in-Ok.ensures.1 _ c.in-Reading.is past)).1

pub returns-in-Ended-clause-listed : goal.returns-in-Ended-clause-listed
returns-in-Ended-clause-listed c = (both (list_over c.args.graph.now c.args.text.now c.args.scan.place c.args.out.now c.in-Ok.ensures.1 c.in-Ended.is)).0

pub returns-in-Ended-clause-buffer : goal.returns-in-Ended-clause-buffer
returns-in-Ended-clause-buffer c = (both (list_over c.args.graph.now c.args.text.now c.args.scan.place c.args.out.now c.in-Ok.ensures.1 c.in-Ended.is)).1
