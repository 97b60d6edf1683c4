-- A row that stays is packed, renamed, behind those before it; then the vacated rows become zero. Assumes nothing.
use Rattle.std.specs.Prelude.{Option}
use Rattle.std.proofs.Common.{◌≡◌, ℕ, ◌+◌, ◌≤◌, ◌<◌, List, [], ◌∷◌, ◌++◌, Bool, true, length, get_or, take, drop, refl, ap, subst₂, ◌∙◌, arith, rules, length-append}
use mathlib.Core.Logic.{inl, inr, ⊎_elim}
use Rattle.lists.specs.Lists.{select}
use Rattle.lists.proofs.Selecting.{select-from, select_in, select-out, select-whole, select-few}
use Rattle.graph_rules.specs.Layout.{graph_place, graph_size, no_leaf}
use Rattle.graph_rules.specs.Graph.{State, blank, state_of, graph_fits, graph_from}
use Rattle.graph_rules.specs.Build.{relabel}
use Rattle.graph_rules.proofs.Fits.{Fits, relabel-fits}
use Rattle.graph_rules.proofs.Taken.{taken-few, taken-long, taken-target}
use Rattle.graph_rules.proofs.Flat.{from-length}
use Rattle.relabel.specs.Names.{Fitting}
use Rattle.words.proofs.GraphWords.{taken-fits}
use Rattle.words.proofs.Buffers.{buffer-taken}
use Rattle.relabel.proofs.Packing.{Packed, packed_none, packed-skip, packed-row, packed_all}
use Rattle.relabel.proofs.relabel.Goals as goal
use Rattle.relabel.proofs.relabel.Goals.{then-stay-s, else-stay-s}

-- of the states before s, those that stay
abbrev staying : List Bool → List ℕ → ℕ → List State
staying stay w s = select (take s stay) (graph_from w).states

new-fits : (w : List ℕ) (taken : graph_fits w ≡ true) (small : (i : ℕ) → get_or w i 0 < 65536) (names : List (Option ℕ)) (stay : List Bool)
    → length (select stay (graph_from w).states) ≤ get_or w 0 0 → Fitting names (select stay (graph_from w).states) (graph_from w).root
    → Fits no_leaf (get_or w 0 0) (relabel names (select stay (graph_from w).states) (graph_from w).root)
unfolding state_of
new-fits w taken small names stay few f =
    relabel-fits no_leaf (get_or w 0 0) (graph_from w) (taken-fits w taken small).states names (select stay (graph_from w).states) (graph_from w).root few
    (select-from blank stay (graph_from w).states) f.below f.root_below

pub loop-s-init : goal.loop-s-init
loop-s-init c = (refl, packed_none _ _, λ i. search rules)

pub move_row-requires-clause-k_le_s : goal.move_row-requires-clause-k_le_s
move_row-requires-clause-k_le_s c =
    let w = c.args.graph.now in
    let n = c.states-n.ensures in
    let k = c.loop-s.invariant.0 in
    let len = c.loop-s.invariant.1.len in
    let short = select-few c.args.stay.now (graph_from w).states c.loop-s.s in
    let long = taken-long w c.requires.graph_value in
    (omega arith, omega arith, omega arith)

pub move_row-requires-clause-by_index : goal.move_row-requires-clause-by_index
move_row-requires-clause-by_index c = λ d b.
    let w = c.args.graph.now in
    let n = c.states-n.ensures in
    let few = taken-few w c.requires.graph_value in
    rw (c.loop-s.invariant.1.others (graph_place c.loop-s.s d) (inr (omega arith)))
    (⊎_elim (λ x. inl (omega arith)) (λ x. inr x) (taken-target w c.requires.graph_value c.loop-s.s d (omega arith) b))

pub overflow_add-k : goal.overflow_add-k
overflow_add-k c =
    let n = c.states-n.ensures in
    let k = c.loop-s.invariant.0 in
    let short = select-few c.args.stay.now (graph_from c.args.graph.now).states c.loop-s.s in
    omega arith

pub loop-s-preserved : goal.loop-s-preserved
unfolding state_of
loop-s-preserved c =
    let w = c.args.graph.now in
    let s = c.loop-s.s in
    let stay = c.args.stay.now in
    let names = c.args.names.now in
    let all = (graph_from w).states in
    let n = c.states-n.ensures in
    let size = from-length w in
    let short = select-few stay all s in
    let state = get_or all s blank in
    let i = c.loop-s.invariant in
    elim c.if-stay-s.branch [
      | then-stay-s v ↦
          let long = length-append (staying stay w s) (state ∷ []) in
          let more : c.loop-s.k + 1 ≡ length (staying stay w s ++ (state ∷ [])) = let e = i.0 in omega arith in
          rw (select_in blank stay all s (omega arith) v.if-stay-s.true, v.graph-is, v.k-is) (
            more,
            packed-row names w c.requires.graph_value (staying stay w s) s (omega arith) short c.loop-s.graph v.move_row.new.graph i.1 (rw i.0 at v.move_row.ensures),
            i.2,
          )
      | else-stay-s v ↦
          rw (select-out stay all s v.if-stay-s.false, v.graph-is, v.k-is) (i.0, packed-skip names w (staying stay w s) s c.loop-s.graph i.1, i.2)
    ]

pub place-requires-clause-s_bound : goal.place-requires-clause-s_bound
place-requires-clause-s_bound c =
    let n = c.states-n.ensures in
    let k = c.loop-s.invariant.0 in
    let e = c.loop-s.auto.s-end in
    let short = select-few c.args.stay.now (graph_from c.args.graph.now).states c.loop-s.s in
    omega arith

pub zero-requires-clause-a_le_b : goal.zero-requires-clause-a_le_b
zero-requires-clause-a_le_b c =
    let n = c.states-n.ensures in
    let k = c.loop-s.invariant.0 in
    let e = c.loop-s.auto.s-end in
    let short = select-few c.args.stay.now (graph_from c.args.graph.now).states c.loop-s.s in
    omega arith

pub zero-requires-clause-b_in_bounds : goal.zero-requires-clause-b_in_bounds
zero-requires-clause-b_in_bounds c =
    let n = c.states-n.ensures in
    let len = c.loop-s.invariant.1.len in
    let long = taken-long c.args.graph.now c.requires.graph_value in
    omega arith

pub overflow_cast-k : goal.overflow_cast-k
overflow_cast-k c =
    let n = c.states-n.ensures in
    let k = c.loop-s.invariant.0 in
    let e = c.loop-s.auto.s-end in
    let short = select-few c.args.stay.now (graph_from c.args.graph.now).states c.loop-s.s in
    omega arith

pub set_head-requires : goal.set_head-requires
set_head-requires c =
    let len = c.loop-s.invariant.1.len in
    let long = taken-long c.args.graph.now c.requires.graph_value in
    omega (arith, c.zero.auto.words)

-- what stands in the words in the end
module _ (w : List ℕ) (taken : graph_fits w ≡ true) (small : (i : ℕ) → get_or w i 0 < 65536) (names : List (Option ℕ)) (stay : List Bool)
    (fitting : Fitting names (select stay (graph_from w).states) (graph_from w).root) (n s k : ℕ) (v : List ℕ) (en : n ≡ get_or w 0 0) (up : s ≤ n) (all : n ≤ s)
    (count : k ≡ length (staying stay w s)) (packed : Packed names (staying stay w s) s w v) where
  abbrev rest : List State
  rest = select stay (graph_from w).states

  whole : staying stay w s ≡ rest
  whole = select-whole stay (graph_from w).states s (let e = from-length w in omega arith)

  size : k ≡ length rest
  size = count ∙ ap length whole

  few : length rest ≤ get_or w 0 0
  few = let short = select-few stay (graph_from w).states s in let e = ap length whole in omega arith

  fits : Fits no_leaf (get_or w 0 0) (relabel names rest (graph_from w).root)
  fits = new-fits w taken small names stay few fitting

  done : Packed names rest (get_or w 0 0) w v
  done =
      let e : s ≡ get_or w 0 0 = omega arith in
      subst₂ (λ (r : List State) (s : ℕ). Packed names r s w v) whole e packed

pub returns-clause-graph_after : goal.returns-clause-graph_after
unfolding relabel graph_from
returns-clause-graph_after c =
    let w = c.args.graph.now in
    let taken = c.requires.graph_value in
    let names = c.args.names.now in
    let stay = c.args.stay.now in
    let i = c.loop-s.invariant in
    let en = c.states-n.ensures.0 in
    let up = c.loop-s.auto.s-end in
    let all = c.loop-s-test.false in
    cc (
      c.set_head.ensures,
      c.zero.ensures,
      c.place.ensures,
      c.place-2.ensures,
      size w taken i.2 names stay c.requires.fitting c.states-n.result c.loop-s.s c.loop-s.k c.loop-s.graph en up all i.0 i.1,
      en,
      c.root_name.ensures,
      c.root-root.ensures.0,
      packed_all names w taken (select stay (graph_from w).states) (graph_from w).root
          (fits w taken i.2 names stay c.requires.fitting c.states-n.result c.loop-s.s c.loop-s.k c.loop-s.graph en up all i.0 i.1)
          (few w taken i.2 names stay c.requires.fitting c.states-n.result c.loop-s.s c.loop-s.k c.loop-s.graph en up all i.0 i.1)
          c.loop-s.graph
          (done w taken i.2 names stay c.requires.fitting c.states-n.result c.loop-s.s c.loop-s.k c.loop-s.graph en up all i.0 i.1),
    )

pub returns-clause-graph_after_2 : goal.returns-clause-graph_after_2
returns-clause-graph_after_2 c =
    let w = c.args.graph.now in
    let taken = c.requires.graph_value in
    let names = c.args.names.now in
    let stay = c.args.stay.now in
    let i = c.loop-s.invariant in
    rw (returns-clause-graph_after c)
    (buffer-taken no_leaf (get_or w 0 0) (omega arith) (taken-few w taken) (relabel names (select stay (graph_from w).states) (graph_from w).root)
    (fits w taken i.2 names stay c.requires.fitting c.states-n.result c.loop-s.s c.loop-s.k c.loop-s.graph c.states-n.ensures.0 c.loop-s.auto.s-end c.loop-s-test.false i.0 i.1)
    (drop (graph_size (get_or w 0 0)) w))
