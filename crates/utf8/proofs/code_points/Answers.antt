-- `utf8::code_points` meets its contract, by what one byte does to what is left. Assumes nothing.
use Rattle.std.proofs.Common.{rules, arith, sym, ◌∙◌, ◌<◌, slice_index_or}
use Rattle.utf8.proofs.Dividing.{left-start, left-lead, left-no-lead, left-trail, left_below, left-above, left_end, left-short}
use Rattle.utf8.proofs.code_points.Goals.{then-b-low-via-then-b-low, then-b-low-via-else-b-low+then-high-b}
use Rattle.utf8.proofs.code_points.Goals as goal

pub loop-b-init : goal.loop-b-init
loop-b-init c = record { most = omega arith; left = left-start _ }

pub returns-in_err-due : goal.returns-in_err-due
returns-in_err-due c =
    let l = c.loop-b in
    c.from_residual.ensures ∙ sym (left-no-lead c.args.text.now l.n l.low l.high l.b-index (omega arith) l.due (search rules) l.invariant.left c.in_err-due.ensures)

pub loop-b-preserved-then-due-eq0 : goal.loop-b-preserved-then-due-eq0
loop-b-preserved-then-due-eq0 c =
    let text = c.args.text.now in
    let l = c.loop-b in
    let byte : slice_index_or text l.b-index 0 < 256 = omega (arith, c.type_inv.text l.b-index) in
    let entry = c.in_ok-due.ensures in
    record {
      most = omega arith;
      left =
          rw (c.second_high-high.ensures, c.second_low-low.ensures, entry.0)
          (left-lead text l.n l.low l.high l.b-index (omega arith) l.due (search rules) l.invariant.left byte (omega (arith, entry.0, entry.1)));
    }

pub returns-then-b-low : goal.returns-then-b-low
returns-then-b-low c =
    let text = c.args.text.now in
    let l = c.loop-b in
    elim c.then-b-low.branch [
      | then-b-low-via-then-b-low w ↦ sym (left_below text l.n l.low l.high l.b-index (omega arith) l.due (search rules) l.invariant.left w.if-b-low.true)
      | then-b-low-via-else-b-low+then-high-b w ↦ sym (left-above text l.n l.low l.high l.b-index (omega arith) l.due (search rules) l.invariant.left w.if-high-b.true)
    ]

pub loop-b-preserved : goal.loop-b-preserved
loop-b-preserved c =
    let l = c.loop-b in
    record {
      most = omega arith;
      left = left-trail c.args.text.now l.n l.low l.high l.b-index (omega arith) l.due (search rules) l.invariant.left (omega arith) (omega arith);
    }

pub returns-then-due-eq0-2 : goal.returns-then-due-eq0-2
returns-then-due-eq0-2 c =
    let l = c.loop-b in
    sym (left_end c.args.text.now l.n l.due l.low l.high l.b-index (omega arith) l.invariant.left (omega arith))

pub returns-else-due-eq0-2 : goal.returns-else-due-eq0-2
returns-else-due-eq0-2 c =
    let l = c.loop-b in
    sym (left-short c.args.text.now l.n l.due l.low l.high l.b-index (search rules) l.invariant.left (omega arith))
