-- Entry by entry. Assumes nothing.
use Rattle.std.proofs.Common.{◌≡◌, ◌<◌, ◌≤◌, ◌*◌, ◌/◌, ℕ, length, arith, ap, Ok, ◌∙◌}
use Rattle.graph_rules.specs.Graph.{graph_from}
use Rattle.scans.specs.declared.list.Listed.{Listed}
use Rattle.scans.specs.Scan.{reading_at}
use Rattle.scans.specs.List.{entry_size, list_from}
use Rattle.scans.proofs.Filling.{filling-more, left-full, left-ends, done-listed, done-buffer}
use Rattle.scans.proofs.list.fill.Goals as goal

pub returns-then-at-text-clause-listed : goal.returns-then-at-text-clause-listed
unfolding list_from
returns-then-at-text-clause-listed g c =
    let r = graph_from (g.R.Reader.words c.args.reader.now) in
    let l = c.loop-n in
    let more : l.n < length c.args.out.now / 3 = omega arith in
    done-listed r c.args.text.now c.args.from _ c.args.out.now l.out l.n l.at l.invariant _
    (left-ends r c.args.text.now c.args.from _ c.args.out.now l.out l.n l.at l.invariant more c.if-at-text.true)

pub returns-then-at-text-clause-buffer : goal.returns-then-at-text-clause-buffer
unfolding list_from
returns-then-at-text-clause-buffer g c =
    let r = graph_from (g.R.Reader.words c.args.reader.now) in
    let l = c.loop-n in
    let more : l.n < length c.args.out.now / 3 = omega arith in
    done-buffer r c.args.text.now c.args.from _ c.args.out.now l.out l.n l.at l.invariant _
    (left-ends r c.args.text.now c.args.from _ c.args.out.now l.out l.n l.at l.invariant more c.if-at-text.true)

pub loop-n-preserved : goal.loop-n-preserved
loop-n-preserved g c =
    let r = graph_from (g.R.Reader.words c.args.reader.now) in
    let l = c.loop-n in
    let more : l.n < length c.args.out.now / 3 = omega arith in
    let within = l.invariant.within in
    let inside : l.at < length c.args.text.now = omega (arith, c.if-at-text.false) in
    let room : entry_size * (length c.args.out.now / 3) ≤ length c.args.out.now = omega arith in
    rw (c.put_entry.ensures, c.end-at.ensures)
    (filling-more r c.args.text.now c.args.from _ c.args.out.now l.out l.n l.at l.invariant more inside room c.entry-piece.result c.entry-piece.ensures)

pub returns-clause-listed : goal.returns-clause-listed
unfolding list_from
returns-clause-listed g c =
    let r = graph_from (g.R.Reader.words c.args.reader.now) in
    let l = c.loop-n in
    let e : length c.args.out.now / 3 ≡ l.n = omega arith in
    ap {B = Listed} (λ (n : ℕ). record { answer = Ok n; scan = reading_at l.at }) e
    ∙ done-listed r c.args.text.now c.args.from _ c.args.out.now l.out l.n l.at l.invariant _
    (left-full r c.args.text.now c.args.from _ c.args.out.now l.out l.n l.at l.invariant (omega arith))

pub returns-clause-buffer : goal.returns-clause-buffer
unfolding list_from
returns-clause-buffer g c =
    let r = graph_from (g.R.Reader.words c.args.reader.now) in
    let l = c.loop-n in
    done-buffer r c.args.text.now c.args.from _ c.args.out.now l.out l.n l.at l.invariant _
    (left-full r c.args.text.now c.args.from _ c.args.out.now l.out l.n l.at l.invariant (omega arith))
