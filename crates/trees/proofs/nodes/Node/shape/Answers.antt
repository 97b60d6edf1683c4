-- `trees::nodes::Node::shape` meets its contract, by the kinds. Assumes nothing.
use Rattle.std.proofs.Common.{arith}
use mathlib.Core.Path.{◌≡◌}
use Rattle.trees.specs.Layout.{literal_kind, repetition_kind, capture_kind}
use Rattle.trees.proofs.NodeLaws.{child-in, child-is, literal-in, at-none, at-empty, at-literal, at-class, at-look, at-repetition, at-capture, at-concat, at-alternation, part-lower, part-alone, first-lower}
use Rattle.trees.proofs.nodes.Node.shape.Goals as goal

pub returns-in_default-clause-stands : goal.returns-in_default-clause-stands
returns-in_default-clause-stands c = at-none c.args.self c.record_at-r.result c.record_at-r.ensures c.in_default.ensures.0

pub slice_bounds-result-end : goal.slice_bounds-result-end
slice_bounds-result-end c =
    let kind : c.record_at-r.result.kind ≡ literal_kind = rw c.in-Literal.is at c.in-Ok.ensures in
    omega (arith, literal-in c.args.self c.record_at-r.result c.record_at-r.ensures kind)

pub node-requires : goal.node-requires
node-requires c =
    let kind : c.record_at-r.result.kind ≡ repetition_kind = rw c.in-Repetition.is at c.in-Ok.ensures in
    (child-is c.args.self c.record_at-r.result c.record_at-r.ensures (omega arith) (omega arith), child-in c.args.self c.record_at-r.result c.record_at-r.ensures)

pub node-requires-in-Capture : goal.node-requires-in-Capture
node-requires-in-Capture c =
    let kind : c.record_at-r.result.kind ≡ capture_kind = rw c.in-Capture.is at c.in-Ok.ensures in
    (child-is c.args.self c.record_at-r.result c.record_at-r.ensures (omega arith) (omega arith), child-in c.args.self c.record_at-r.result c.record_at-r.ensures)

pub named-requires : goal.named-requires
named-requires c = child-in c.args.self c.record_at-r.result c.record_at-r.ensures

pub named-requires-in-Alternation : goal.named-requires-in-Alternation
named-requires-in-Alternation c = child-in c.args.self c.record_at-r.result c.record_at-r.ensures

pub returns-in-Empty-clause-stands : goal.returns-in-Empty-clause-stands
returns-in-Empty-clause-stands c = at-empty c.args.self c.record_at-r.result c.record_at-r.ensures (rw c.in-Empty.is at c.in-Ok.ensures)

pub returns-in-Literal-clause-stands : goal.returns-in-Literal-clause-stands
returns-in-Literal-clause-stands c = at-literal c.args.self c.record_at-r.result c.record_at-r.ensures (rw c.in-Literal.is at c.in-Ok.ensures)

pub returns-in-Class-clause-stands : goal.returns-in-Class-clause-stands
returns-in-Class-clause-stands c = at-class c.args.self c.record_at-r.result c.record_at-r.ensures (rw c.in-Class.is at c.in-Ok.ensures) _ c.is_set.ensures

pub returns-in-Look-clause-stands : goal.returns-in-Look-clause-stands
returns-in-Look-clause-stands c = at-look c.args.self c.record_at-r.result c.record_at-r.ensures (rw c.in-Look.is at c.in-Ok.ensures)

pub returns-in-Repetition-clause-stands : goal.returns-in-Repetition-clause-stands
returns-in-Repetition-clause-stands c =
    at-repetition c.args.self c.record_at-r.result c.record_at-r.ensures c.node.result c.node.ensures.0 c.node.ensures.1
    (rw c.in-Repetition.is at c.in-Ok.ensures) _ _ c.is_set-in-Repetition.ensures c.is_set-in-Repetition-2.ensures

pub returns-in-Repetition-clause-lower : goal.returns-in-Repetition-clause-lower
returns-in-Repetition-clause-lower c = part-lower c.args.self c.record_at-r.result c.record_at-r.ensures c.node.result c.node.ensures.0 c.node.ensures.1

pub returns-in-Capture-clause-stands : goal.returns-in-Capture-clause-stands
returns-in-Capture-clause-stands c =
    at-capture c.args.self c.record_at-r.result c.record_at-r.ensures c.node-in-Capture.result c.node-in-Capture.ensures.0 c.node-in-Capture.ensures.1
    (rw c.in-Capture.is at c.in-Ok.ensures)

pub returns-in-Capture-clause-lower : goal.returns-in-Capture-clause-lower
returns-in-Capture-clause-lower c =
    part-lower c.args.self c.record_at-r.result c.record_at-r.ensures c.node-in-Capture.result c.node-in-Capture.ensures.0 c.node-in-Capture.ensures.1

pub returns-in-Concat-clause-stands : goal.returns-in-Concat-clause-stands
returns-in-Concat-clause-stands c =
    at-concat c.args.self c.record_at-r.result c.record_at-r.ensures (rw c.in-Concat.is at c.in-Ok.ensures) c.named.result c.named.ensures

pub returns-in-Concat-clause-lower : goal.returns-in-Concat-clause-lower
returns-in-Concat-clause-lower c = first-lower c.args.self c.record_at-r.result c.record_at-r.ensures c.named.result c.named.ensures

pub returns-in-Alternation-clause-stands : goal.returns-in-Alternation-clause-stands
returns-in-Alternation-clause-stands c =
    at-alternation c.args.self c.record_at-r.result c.record_at-r.ensures (rw c.in-Alternation.is at c.in-Ok.ensures) c.named-in-Alternation.result
    c.named-in-Alternation.ensures

pub returns-in-Alternation-clause-lower : goal.returns-in-Alternation-clause-lower
returns-in-Alternation-clause-lower c =
    first-lower c.args.self c.record_at-r.result c.record_at-r.ensures c.named-in-Alternation.result c.named-in-Alternation.ensures

pub returns-in-Repetition-clause-alone : goal.returns-in-Repetition-clause-alone
returns-in-Repetition-clause-alone c =
    let kind : c.record_at-r.result.kind ≡ repetition_kind = rw c.in-Repetition.is at c.in-Ok.ensures in
    part-alone c.args.self c.record_at-r.result c.record_at-r.ensures c.node.result c.node.ensures.0 c.node.ensures.1 (omega arith) (omega arith)

pub returns-in-Capture-clause-alone : goal.returns-in-Capture-clause-alone
returns-in-Capture-clause-alone c =
    let kind : c.record_at-r.result.kind ≡ capture_kind = rw c.in-Capture.is at c.in-Ok.ensures in
    part-alone c.args.self c.record_at-r.result c.record_at-r.ensures c.node-in-Capture.result c.node-in-Capture.ensures.0 c.node-in-Capture.ensures.1
    (omega arith) (omega arith)
