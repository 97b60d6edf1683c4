-- A child that differs from the first: there is no early leaf; else it is that of the first. Assumes nothing.
use Rattle.std.proofs.Common.{◌≡◌, sym, ap, ◌∙◌, rules}
use borrow.Author.Count.{below_more}
use Rattle.lists.proofs.Options.{options-differ, options-same, options-eq, options-ne}
use Rattle.lists.proofs.Ranges.{all-told}
use Rattle.graph_rules.specs.Layout.{end_step}
use Rattle.graph_rules.specs.Graph.{graph_from}
use Rattle.graph_rules.specs.Build.{accept_by}
use Rattle.early.proofs.Children.{leaf_by, from-one, byte-differs, end-differs, bytes-agree, all-agree}
use Rattle.early.proofs.agreed_leaf.Goals as goal

pub returns-then-not-all-clause-value : goal.returns-then-not-all-clause-value
returns-then-not-all-clause-value c =
    let w = c.args.graph.words.now in
    let told = all-told {P = λ b. Unit {0}} {N = λ b. leaf_by w c.args.s b ≡ c.accept_by-leaf.result → ⊥} _ _ _ c.all.result c.all.ensures.ran
    (λ x q k. search rules) (λ x q k. search (rules, options-ne)) in
    let (i, l, b, d) = told.1 c.if-not-all.true in
    byte-differs w c.args.graph.fits c.args.s c.requires i b (λ e. d (e ∙ sym c.accept_by-leaf.ensures.value))

pub returns-in_default-clause-value : goal.returns-in_default-clause-value
returns-in_default-clause-value c =
    let w = c.args.graph.words.now in
    let first = c.accept_by-leaf.ensures.value in
    let told = all-told {P = λ b. leaf_by w c.args.s b ≡ c.accept_by-leaf.result} {N = λ b. Unit {0}} _ _ _ c.all.result c.all.ensures.ran
    (λ x q k. search (rules, options-eq)) (λ x q k. tt) in
    first
    ∙ bytes-agree w c.args.graph.fits c.args.s c.requires (sym c.in_default.ensures.value)
    (from-one w c.args.s (λ i l b. told.0 c.if-not-all.false i l b ∙ first))

pub returns-then-ne-clause-value : goal.returns-then-ne-clause-value
returns-then-ne-clause-value c =
    let w = c.args.graph.words.now in
    let e = sym c.in-Some.ensures.value in
    let n = options-differ c.accept.result c.accept_by-leaf.result c.ne.result c.ne.ensures c.if-ne.true in
    end-differs w c.args.graph.fits c.args.s c.requires c.in-Some.end e
    (λ q. n (c.accept.ensures.value ∙ sym (ap (accept_by (graph_from w)) e) ∙ q ∙ sym c.accept_by-leaf.ensures.value))

pub returns-clause-value : goal.returns-clause-value
returns-clause-value c =
    let w = c.args.graph.words.now in
    let e = sym c.in-Some.ensures.value in
    let first = c.accept_by-leaf.ensures.value in
    let told = all-told {P = λ b. leaf_by w c.args.s b ≡ c.accept_by-leaf.result} {N = λ b. Unit {0}} _ _ _ c.all.result c.all.ensures.ran
    (λ x q k. search (rules, options-eq)) (λ x q k. tt) in
    first
    ∙ all-agree w c.args.graph.fits c.args.s c.requires c.in-Some.end e
    (below_more (λ i. leaf_by w c.args.s i ≡ leaf_by w c.args.s 0) end_step (from-one w c.args.s (λ i l b. told.0 c.if-not-all.false i l b ∙ first))
    (ap (accept_by (graph_from w)) e
    ∙ sym c.accept.ensures.value
    ∙ options-same c.accept.result c.accept_by-leaf.result c.ne.result c.ne.ensures c.if-ne.false
    ∙ first))
