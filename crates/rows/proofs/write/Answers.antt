-- A reached state's row is written as the next one; the others are passed. Assumes nothing.
use mathlib.Core.Path.{◌≡◌, refl, ap, subst, ◌∙◌}
use mathlib.Core.List.{List, [], ◌∷◌}
use Prim.Native.Nat.{ℕ, ◌+◌, ◌-◌}
use native.Mathlib.Omega.{arith}
use lib.ListN.{get_or, replicate}
use lib.Seq.{sets}
use Rattle.graph_rules.specs.Layout.{graph_place}
use Rattle.rows.proofs.FirstRows.{Written, written_same, written_none, written_in, written_out, written_all_lem}
use Rattle.rows.proofs.write.Goals.{then-set-s, else-set-s}
use Rattle.rows.proofs.write.Goals as goal

pub loop-s-init : goal.loop-s-init
loop-s-init c = written_none _ _ _ _

pub loop-s-preserved : goal.loop-s-preserved
loop-s-preserved c =
    let w = c.args.table.words.now in
    let l = c.loop-s in
    let found = c.args.graph.now in
    let n = c.states-n.ensures.0 in
    elim c.if-set-s.branch [
      | then-set-s b ↦
          written_same found c.if-set-s.graph c.if-set-s.k (l.s + 1) refl (b.graph-is ∙ b.write_row.ensures) b.k-is refl
          (written_in w c.args.table.legal c.args.start c.requires.start_bound c.args.set.now c.requires.set_value c.numbered-names.result c.numbered-names.ensures
          found l.graph l.k l.s (omega arith) l.invariant b.if-set-s.true)
      | else-set-s b ↦
          written_same found c.if-set-s.graph c.if-set-s.k (l.s + 1) refl b.graph-is b.k-is refl
          (written_out w c.args.table.legal c.args.start c.requires.start_bound c.args.set.now c.requires.set_value c.numbered-names.result c.numbered-names.ensures
          found l.graph l.k l.s (omega arith) l.invariant b.if-set-s.false)
    ]

-- zeros written between places that are computed are those written between the places themselves
zeroed : (graph : List ℕ) {out : List ℕ} {a b a' b' : ℕ} → a ≡ a' → b ≡ b' → out ≡ sets graph a (replicate (b - a) 0)
    → out ≡ sets graph a' (replicate (b' - a') 0)
zeroed graph e f made = made ∙ (λ i. sets graph (e i) (replicate (f i - e i) 0))

pub returns : goal.returns
returns c =
    let w = c.args.table.words.now in
    let l = c.loop-s in
    let n = get_or w 0 0 in
    let names = c.numbered-names.result in
    let count-is : c.states-n.result ≡ n = c.states-n.ensures.0 in
    let all : l.s ≡ n = omega arith in
    let written = subst (λ (s : ℕ). Written w c.args.start c.args.set.now c.args.graph.now l.graph l.k s) all l.invariant in
    let from : c.place.result ≡ graph_place l.k 0 = c.place.ensures in
    let to : c.place-2.result ≡ graph_place n 0 = omega arith in
    c.set_head.ensures
    ∙ ap (λ (o : List ℕ). sets o 0 (l.k ∷ (c.unwrap_or.result ∷ []))) (zeroed l.graph from to c.zero.ensures)
    ∙ written_all_lem w c.args.table.legal c.args.start c.requires.start_bound c.args.set.now c.requires.set_value c.args.graph.now l.graph l.k c.unwrap_or.result
    names c.numbered-names.ensures c.unwrap_or.ensures (omega arith) written
