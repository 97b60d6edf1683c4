-- Two states of which a part differs are not the same. Assumes nothing.
use Rattle.std.specs.Prelude.{Option}
use Rattle.std.specs.Option.{option_eq}
use Rattle.std.proofs.Common.{◌≡◌, ℕ, List, Bool, false, eqb, refl, sym, ap, ◌∙◌, arith, rules}
use Rattle.std.proofs.lemmas.Iterator.{YieldsList-from_range}
use Rattle.std.proofs.lemmas.Iterator.Search.{all_from_yields_List}
use Rattle.lists.proofs.Bools.{bool-ext}
use Rattle.lists.proofs.Elements.{option-sound}
use Rattle.lists.proofs.Intervals.{all_from, from_all, all-range}
use Rattle.lists.proofs.Options.{option-test, options-differ, options-same}
use Rattle.graph_rules.specs.Layout.{step_count}
use Rattle.graph_rules.proofs.Merge.{same-sound}
use Rattle.graph_rules.specs.Graph.{State, state_of, to, accept_of, early_of, same, graph_from}
use Rattle.merge.proofs.Twins.{states-differ, states-same, twins}
use Rattle.merge.proofs.equal.equal.Goals as goal

unlike : (w : List ℕ) (e s : ℕ) (f : State → Option ℕ) (x y : Option ℕ) → x ≡ f (state_of (graph_from w) e) → y ≡ f (state_of (graph_from w) s) → (x ≡ y → ⊥)
    → false ≡ same (state_of (graph_from w) e) (state_of (graph_from w) s)
unlike w e s f x y p q n = sym (states-differ _ _ (λ r. n (p ∙ ap f r ∙ sym q)))

pub returns-then-ne : goal.returns-then-ne
unfolding accept_of
returns-then-ne c =
    unlike c.args.graph.words.now c.args.e c.args.s (λ z. z.accept) _ _ c.accept.ensures.value c.accept-2.ensures.value
    (options-differ c.accept.result c.accept-2.result c.ne.result c.ne.ensures c.if-ne.true)

pub returns-then-ne-2 : goal.returns-then-ne-2
unfolding early_of
returns-then-ne-2 c =
    unlike c.args.graph.words.now c.args.e c.args.s (λ z. z.early) _ _ c.early.ensures.value c.early-2.ensures.value
    (options-differ c.early.result c.early-2.result c.ne-2.result c.ne-2.ensures c.if-ne-2.true)

pub returns : goal.returns
unfolding to
returns c =
    let w = c.args.graph.words.now in
    let own : ℕ → Option ℕ = to (graph_from w) c.args.e in
    let other : ℕ → Option ℕ = to (graph_from w) c.args.s in
    let p : ℕ → Bool = λ i. option_eq eqb (own i) (other i) in
    let each =
    all_from_yields_List p _ _ _ c.all.ensures.ran (YieldsList-from_range 0 step_count step_count refl refl) (λ x b q k. search rules) ∙ all-range p step_count 0
    in
    bool-ext _ _
    (λ t.
    states-same _ _ (twins w c.args.graph.fits c.args.e c.args.s c.requires.0 c.requires.1
    (sym c.accept.ensures.value ∙ options-same c.accept.result c.accept-2.result c.ne.result c.ne.ensures c.if-ne.false ∙ c.accept-2.ensures.value)
    (sym c.early.ensures.value ∙ options-same c.early.result c.early-2.result c.ne-2.result c.ne-2.ensures c.if-ne-2.false ∙ c.early-2.ensures.value)
    (λ d h. option-sound.eq _ _ (sym (option-test (own d) (other d)) ∙ all_from p step_count 0 (sym each ∙ t) d (omega arith) (omega arith)))))
    (λ t. each ∙ from_all p step_count 0 (λ i l u. rw (same-sound.eq _ _ t) (option-test (other i) (other i) ∙ option-sound.self (other i))))
