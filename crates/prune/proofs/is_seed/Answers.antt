-- A state has a mark where it has a leaf or an early leaf. Assumes nothing.
use Rattle.std.proofs.Common.{◌≡◌, true, false, ◌||◌, eqb, get_or, ℕ, Bool, Option, Some, None, refl, sym, ap, ◌∙◌}
use Rattle.std.specs.Option.{is_some}
use mathlib.Core.Bool.{false≢true}
use mathlib.Core.List.{List}
use Rattle.lists.proofs.Bools.{or_left, or_right}
use Rattle.graph_rules.specs.Graph.{state_of, graph_from, accept_of, early_of}
use Rattle.graph_rules.specs.Build.{present}
use Rattle.prune.proofs.is_seed.Goals as goal
use Rattle.prune.proofs.is_seed.Goals.{then-is_some, else-is_some}

present-is : (o : Option ℕ) → is_some o ≡ present o
present-is None = refl
present-is (Some l) = refl

module _ (w : List ℕ) (s : ℕ) (o : Option ℕ) (r b : Bool) (told : r ≡ is_some o) (tested : r ≡ b) where
  accepts : o ≡ accept_of (graph_from w) s → present (state_of (graph_from w) s).accept ≡ b
  unfolding accept_of
  accepts e = sym (ap present e) ∙ sym (present-is o) ∙ sym told ∙ tested

  earlies : o ≡ early_of (graph_from w) s → present (state_of (graph_from w) s).early ≡ b
  unfolding early_of
  earlies e = sym (ap present e) ∙ sym (present-is o) ∙ sym told ∙ tested

pub returns-then-is_some-2 : goal.returns-then-is_some-2
returns-then-is_some-2 c =
    elim c.if-is_some.branch [
      | then-is_some w ↦
          c.if-is_some-2.true
          ∙ sym (or_left _ _ (or_left _ _ (accepts c.args.graph.words.now c.args.s _ _ true c.is_some.ensures w.if-is_some.true c.accept.ensures.value)))
      | else-is_some w ↦
          c.if-is_some-2.true
          ∙ sym (or_left _ _ (or_right (present (state_of (graph_from c.args.graph.words.now) c.args.s).accept) _
          (earlies c.args.graph.words.now c.args.s _ _ true w.is_some-else-is_some.ensures (sym w.value-is ∙ c.if-is_some-2.true) w.early.ensures.value)))
    ]

pub returns-else-is_some-2 : goal.returns-else-is_some-2
unfolding graph_from
returns-else-is_some-2 c =
    elim c.if-is_some.branch [
      | then-is_some w ↦ absurd (false≢true (sym c.if-is_some-2.false ∙ w.value-is ∙ w.if-is_some.true))
      | else-is_some w ↦
          let a = accepts c.args.graph.words.now c.args.s _ _ false c.is_some.ensures w.if-is_some.false c.accept.ensures.value in
          let e =
          earlies c.args.graph.words.now c.args.s _ _ false w.is_some-else-is_some.ensures (sym w.value-is ∙ c.if-is_some-2.false) w.early.ensures.value
          in
          ap (λ (r : ℕ). eqb r c.args.s) c.root.ensures.0
          ∙ (λ i. sym a i || sym e i || eqb (get_or c.args.graph.words.now 1 0) c.args.s)
    ]
