-- `trees::tree::fits` meets its contract: its tests are the rules of a tree, in the order of `Check`. Assumes nothing.
use Rattle.std.proofs.Common.{◌≡◌, refl, sym, ◌∙◌, true, ◌-◌, eqb, get_or}
use Rattle.lists.specs.Lists.{tab, all_l}
use Rattle.trees.specs.Tree.{count, named}
use Rattle.trees.proofs.Check.{numbered, part-record, no_record, over-most, wrong-record, root-goes-on, named-rightly}
use Rattle.trees.proofs.tree.fits.Goals as goal

pub returns-then-tree-ne0 : goal.returns-then-tree-ne0
returns-then-tree-ne0 c = part-record _ _ c.if-tree-ne0.true

pub returns-then-n-eq0 : goal.returns-then-n-eq0
returns-then-n-eq0 c = no_record _ _ c.if-tree-ne0.false c.if-n-eq0.true

pub returns-then-n-gt-RECORDS : goal.returns-then-n-gt-RECORDS
returns-then-n-gt-RECORDS c = over-most _ _ c.if-tree-ne0.false c.if-n-eq0.false c.if-n-gt-RECORDS.true

pub returns-then-not-records_fit : goal.returns-then-not-records_fit
returns-then-not-records_fit c =
    wrong-record _ _ c.if-tree-ne0.false c.if-n-eq0.false c.if-n-gt-RECORDS.false (sym c.records_fit.ensures ∙ c.if-not-records_fit.true)

pub returns-then-last-ne0 : goal.returns-then-last-ne0
returns-then-last-ne0 c =
    root-goes-on _ _ c.if-tree-ne0.false c.if-n-eq0.false c.if-n-gt-RECORDS.false (sym c.records_fit.ensures ∙ c.if-not-records_fit.false)
    c.record_at-last.result c.record_at-last.ensures c.if-last-ne0.true

pub returns-then-n-eq1 : goal.returns-then-n-eq1
returns-then-n-eq1 c =
    let w = c.args.tree.now in
    let alone : true ≡ all_l (λ i. eqb (get_or (tab 0 1025 (named w)) i 0) 1) (tab 1 (count w - 1) (λ i. i)) = rw c.if-n-eq1.true refl in
    named-rightly _ _ c.if-tree-ne0.false c.if-n-eq0.false c.if-n-gt-RECORDS.false (sym c.records_fit.ensures ∙ c.if-not-records_fit.false)
    c.record_at-last.result c.record_at-last.ensures c.if-last-ne0.false (tab 0 1025 (named w)) refl true alone

pub times_named-times-requires : goal.times_named-times-requires
times_named-times-requires c = numbered _ _ (sym c.records_fit.ensures ∙ c.if-not-records_fit.false) c.if-n-gt-RECORDS.false

pub returns : goal.returns
returns c =
    named-rightly _ _ c.if-tree-ne0.false c.if-n-eq0.false c.if-n-gt-RECORDS.false (sym c.records_fit.ensures ∙ c.if-not-records_fit.false)
    c.record_at-last.result c.record_at-last.ensures c.if-last-ne0.false c.times_named-times.result c.times_named-times.ensures _ c.each_once.ensures
