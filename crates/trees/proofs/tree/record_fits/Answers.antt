-- `trees::tree::record_fits` meets its contract: its tests are the rules of a record, one after the other. Assumes nothing.
use Rattle.trees.proofs.Check.{wrong-kind, wrong-fields, wrong-child, wrong-next, wrong-children, right-children}
use Rattle.trees.proofs.tree.record_fits.Goals as goal

pub returns-in_default : goal.returns-in_default
returns-in_default c = wrong-kind _ _ _ c.record_at-r.result c.record_at-r.ensures c.in_default.ensures.0

pub returns-then-not-fields_fit : goal.returns-then-not-fields_fit
returns-then-not-fields_fit c =
    wrong-fields _ _ _ c.record_at-r.result c.record_at-r.ensures c.in-Ok.kind c.in-Ok.ensures _ c.rule-rule.ensures _ c.fields_fit.ensures
    c.if-not-fields_fit.true

pub returns-then-i-r : goal.returns-then-i-r
returns-then-i-r c =
    wrong-child _ _ _ c.record_at-r.result c.record_at-r.ensures c.in-Ok.kind c.in-Ok.ensures _ c.rule-rule.ensures _ c.fields_fit.ensures
    c.if-not-fields_fit.false c.if-i-r.true

pub returns-then-i-r-2 : goal.returns-then-i-r-2
returns-then-i-r-2 c =
    wrong-next _ _ _ c.record_at-r.result c.record_at-r.ensures c.in-Ok.kind c.in-Ok.ensures _ c.rule-rule.ensures _ c.fields_fit.ensures
    c.if-not-fields_fit.false c.if-i-r.false c.if-i-r-2.true

pub returns-then-children_fit : goal.returns-then-children_fit
returns-then-children_fit c =
    right-children _ _ _ c.record_at-r.result c.record_at-r.ensures c.in-Ok.kind c.in-Ok.ensures _ c.rule-rule.ensures _ c.fields_fit.ensures
    c.if-not-fields_fit.false c.if-i-r.false c.if-i-r-2.false _ c.children_fit.ensures c.if-children_fit.true _ c.literal_fits.ensures

pub returns-else-children_fit : goal.returns-else-children_fit
returns-else-children_fit c =
    wrong-children _ _ _ c.record_at-r.result c.record_at-r.ensures c.in-Ok.kind c.in-Ok.ensures _ c.rule-rule.ensures _ c.fields_fit.ensures
    c.if-not-fields_fit.false c.if-i-r.false c.if-i-r-2.false _ c.children_fit.ensures c.if-children_fit.false
