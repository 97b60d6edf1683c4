-- A state joins the group of the lowest that equals it, or begins one; as many groups as states: nothing is merged. Assumes nothing.
use Rattle.std.proofs.Common.{◌≡◌, Option, ℕ, ◌≤◌, List, Bool, true, false, not, cond, length, get_or, sym, ap, subst, ◌∙◌, arith}
use borrow.Author.Tests.{eq-eqb, ne_eqb}
use Rattle.lists.specs.Lists.{distinct}
use Rattle.graph_rules.specs.Graph.{Graph, same, written_on, graph_fits, graph_from}
use Rattle.graph_rules.specs.Build.{merge_round, merges_none}
use Rattle.graph_rules.proofs.Fits.{Root}
use Rattle.graph_rules.proofs.Taken.{taken-root}
use Rattle.graph_rules.proofs.Flat.{from-length}
use Rattle.merge.specs.Equals.{Lowest}
use Rattle.merge.proofs.Grouping.{Grouped, grouped-none, grouped-low, grouped-new, grouped-met, grouped-count, round_is, grouped-fitting}
use Rattle.merge.proofs.merge_round.Goals as goal
use Rattle.merge.proofs.merge_round.Goals.{then-e-s, else-e-s}

-- all states have been grouped
finished : (w : List ℕ) (n s k : ℕ) (names : List (Option ℕ)) (stay : List Bool) → n ≡ get_or w 0 0 → s ≤ n → n ≤ s → Grouped (graph_from w) s k names stay
    → Grouped (graph_from w) (length (graph_from w).states) k names stay
finished w n s k names stay e a b g =
    let l = from-length w in
    let q : s ≡ length (graph_from w).states = omega arith in
    subst (λ (s : ℕ). Grouped (graph_from w) s k names stay) q g

-- the round merges none where there are as many groups as states
merges-no : (w : List ℕ) (n k : ℕ) (names : List (Option ℕ)) (stay : List Bool) → n ≡ get_or w 0 0
    → Grouped (graph_from w) (length (graph_from w).states) k names stay → k ≡ n → merges_none (graph_from w) ≡ true
unfolding merges_none
merges-no w n k names stay e g q =
    eq-eqb (length (distinct same (graph_from w).states)) (length (graph_from w).states) (sym (grouped-count (graph_from w) k names stay g) ∙ q ∙ e ∙ sym (from-length w))

merges-some : (w : List ℕ) (n k : ℕ) (names : List (Option ℕ)) (stay : List Bool) → n ≡ get_or w 0 0
    → Grouped (graph_from w) (length (graph_from w).states) k names stay → (k ≡ n → ⊥) → merges_none (graph_from w) ≡ false
unfolding merges_none
merges-some w n k names stay e g q =
    ne_eqb (length (distinct same (graph_from w).states)) (length (graph_from w).states)
    (λ z. q (grouped-count (graph_from w) k names stay g ∙ z ∙ from-length w ∙ sym e))

root_is : (v : List ℕ) → graph_fits v ≡ true → Root (length (graph_from v).states) (graph_from v).root
unfolding graph_from
root_is v taken = rw (from-length v) (taken-root v taken)

pub loop-s-init : goal.loop-s-init
loop-s-init c = grouped-none _

pub first_equal-e-requires : goal.first_equal-e-requires
first_equal-e-requires c = let e = c.states-n.ensures.0 in record { s_bound = omega arith; by_index = c.loop-s.invariant.twin }

pub overflow_cast-names : goal.overflow_cast-names
overflow_cast-names c =
    let n = c.states-n.ensures in
    let l = from-length c.args.graph.now in
    let h = grouped-low (graph_from c.args.graph.now) c.loop-s.s c.loop-s.k c.loop-s.names c.loop-s.stay c.loop-s.invariant (omega arith) (omega arith) in
    omega arith

pub overflow_add-k : goal.overflow_add-k
overflow_add-k c =
    let n = c.states-n.ensures in
    let l = from-length c.args.graph.now in
    let h = grouped-low (graph_from c.args.graph.now) c.loop-s.s c.loop-s.k c.loop-s.names c.loop-s.stay c.loop-s.invariant (omega arith) (omega arith) in
    omega arith

pub loop-s-preserved : goal.loop-s-preserved
loop-s-preserved c =
    let g = graph_from c.args.graph.now in
    let n = c.states-n.ensures in
    let l = from-length c.args.graph.now in
    elim c.if-e-s.branch [
      | then-e-s v ↦
          rw (v.names-is, v.stay-is, v.k-is)
          (grouped-new g c.loop-s.s c.loop-s.k c.loop-s.names c.loop-s.stay c.loop-s.invariant (omega arith) (omega arith)
          (subst (Lowest g c.loop-s.s) v.if-e-s.true c.first_equal-e.ensures))
      | else-e-s v ↦
          let h = c.first_equal-e.ensures.within in
          let d = v.if-e-s.false in
          rw (v.names-is, v.stay-is, v.k-is)
          (grouped-met g c.loop-s.s c.loop-s.k c.loop-s.names c.loop-s.stay c.loop-s.invariant (omega arith) (omega arith)
          c.first_equal-e.result (omega (arith, d)) c.first_equal-e.ensures)
    ]

pub returns-then-k-n-clause-value : goal.returns-then-k-n-clause-value
returns-then-k-n-clause-value c =
    let w = c.args.graph.now in
    let e = c.states-n.ensures.0 in
    let f = finished w c.states-n.result c.loop-s.s c.loop-s.k c.loop-s.names c.loop-s.stay e c.loop-s.auto.s-end c.loop-s-test.false c.loop-s.invariant in
    ap not (sym (merges-no w c.states-n.result c.loop-s.k c.loop-s.names c.loop-s.stay e f c.if-k-n.true))

pub returns-then-k-n-clause-graph_after : goal.returns-then-k-n-clause-graph_after
returns-then-k-n-clause-graph_after c =
    let w = c.args.graph.now in
    let e = c.states-n.ensures.0 in
    let f = finished w c.states-n.result c.loop-s.s c.loop-s.k c.loop-s.names c.loop-s.stay e c.loop-s.auto.s-end c.loop-s-test.false c.loop-s.invariant in
    ap (λ (x : Bool). cond x w (written_on (get_or w 0 0) (merge_round (graph_from w)) w)) (sym (merges-no w c.states-n.result c.loop-s.k c.loop-s.names c.loop-s.stay e f c.if-k-n.true))

pub relabel-requires-clause-fitting : goal.relabel-requires-clause-fitting
relabel-requires-clause-fitting c =
    let w = c.args.graph.now in
    let e = c.states-n.ensures.0 in
    let f = finished w c.states-n.result c.loop-s.s c.loop-s.k c.loop-s.names c.loop-s.stay e c.loop-s.auto.s-end c.loop-s-test.false c.loop-s.invariant in
    grouped-fitting (graph_from w) c.loop-s.k c.loop-s.names c.loop-s.stay f (root_is w c.requires)

pub returns-clause-value : goal.returns-clause-value
returns-clause-value c =
    let w = c.args.graph.now in
    let e = c.states-n.ensures.0 in
    let f = finished w c.states-n.result c.loop-s.s c.loop-s.k c.loop-s.names c.loop-s.stay e c.loop-s.auto.s-end c.loop-s-test.false c.loop-s.invariant in
    ap not (sym (merges-some w c.states-n.result c.loop-s.k c.loop-s.names c.loop-s.stay e f c.if-k-n.false))

pub returns-clause-graph_after : goal.returns-clause-graph_after
returns-clause-graph_after c =
    let w = c.args.graph.now in
    let e = c.states-n.ensures.0 in
    let f = finished w c.states-n.result c.loop-s.s c.loop-s.k c.loop-s.names c.loop-s.stay e c.loop-s.auto.s-end c.loop-s-test.false c.loop-s.invariant in
    let buffer : Graph → List ℕ = λ x. written_on (get_or w 0 0) x w in
    c.relabel.ensures.graph_after
    ∙ ap buffer (round_is (graph_from w) c.loop-s.k c.loop-s.names c.loop-s.stay f)
    ∙ ap (λ (x : Bool). cond x w (buffer (merge_round (graph_from w)))) (sym (merges-some w c.states-n.result c.loop-s.k c.loop-s.names c.loop-s.stay e f c.if-k-n.false))
