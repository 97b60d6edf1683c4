-- Which states of a set are tied, counted from the last state down, and how many words their conflicts take. Sorting changes neither number. Assumes nothing.
use Rattle.std.specs.Prelude.{Option, Some, None}
use mathlib.Core.Path.{◌≡◌, refl, sym, ap, ◌∙◌}
use mathlib.Core.Bool.{Bool, true, false, ◌&&◌}
use mathlib.Core.List.{List, [], ◌∷◌, map, flat_map}
use Prim.Native.Nat.{ℕ, suc, ◌+◌, ◌-◌, ◌*◌, ◌≤◌, ◌<◌}
use native.Mathlib.Omega.{arith}
use borrow.Author.Tests.{leb-true, le-leb, lt-leb}
use lib.Dec.{leb}
use lib.ListN.{length, get_or, take, length-map, length-append}
use Rattle.lists.specs.Lists.{below, select, sorted}
use Rattle.lists.proofs.Bools.{Is, is, yes-is, no-is, none-some, and_both, and_intro, and-right-false}
use Rattle.lists.proofs.Elements.{length-tab}
use Rattle.lists.proofs.Selecting.{select-whole}
use Rattle.lists.proofs.Chosen.{chosen_on, chosen-end, chosen-all, chosen-pass, chosen_more}
use Rattle.lists.proofs.Sorted.{total, sorted-total, sorted-length}
use Rattle.lists.proofs.Those.{those-map}
use Rattle.graph_rules.specs.Table.{Table, table_of, refusal}
use Rattle.graph_rules.specs.Build.{contenders, Error, disambiguation, error_words, ties}
use Rattle.graph_rules.proofs.Counts.{size_is}
use Rattle.legal.specs.declared.Table as legal
use Rattle.legal.specs.declared.Record.{Record}
use Rattle.leaves.specs.Chains.{top_of, next_tied, tie_from, tie_at}
use Rattle.conflicts.specs.Slots.{tie_of, tied_at}
use Rattle.leaves.proofs.Contenders.{contenders-top, tie-step, next-tied-low, top-low}
use Rattle.graph_rules.specs.Layout.{most_leaves}

-- ---- a state of a set that is tied

module _ (w : List ℕ) (legal : refusal w ≡ 0) (set : List Bool) (s : ℕ) where
  abbrev t : Table
  t = table_of w

  abbrev number : ℕ
  number = length (contenders t s)

  abbrev tied : Bool
  tied = get_or set s false && leb 2 number

  tied-if : tied ≡ true → tied_at t set s ≡ top_of t s
  unfolding tied_at
  tied-if q = rw (q, tied_at)

  tied-not : tied ≡ false → tied_at t set s ≡ None
  unfolding tied_at
  tied-not q = rw (q, tied_at)

  -- by its flag and the two records that a walk looks at
  pub tied_out : get_or set s false ≡ false → tied_at t set s ≡ None
  tied_out o = tied-not (ap (λ (b : Bool). b && leb 2 number) o)

  pub tied-none : top_of t s ≡ None → tied_at t set s ≡ None
  tied-none e =
      let l = ap length (contenders-top w legal s ∙ ap (tie_at t) e) in
      tied-not (and-right-false (get_or set s false) (leb 2 number) (lt-leb 2 number (omega arith)))

  module _ (i : ℕ) (top : top_of t s ≡ Some i) where
    tie-longer : number ≡ suc (length (tie_at t (next_tied t i)))
    tie-longer = let r = top-low w legal s i top in ap length (contenders-top w legal s ∙ ap (tie_at t) top ∙ tie-step w legal i r.0 r.1)

    pub tied-one : next_tied t i ≡ None → tied_at t set s ≡ None
    tied-one e =
        let a = tie-longer in
        let l = ap (λ (o : Option ℕ). length (tie_at t o)) e in
        tied-not (and-right-false (get_or set s false) (leb 2 number) (lt-leb 2 number (omega arith)))

    pub tied-two : get_or set s false ≡ true → (j : ℕ) → next_tied t i ≡ Some j → tied_at t set s ≡ Some i
    tied-two m j e =
        let r = top-low w legal s i top in
        let b = next-tied-low w legal i j r.0 r.1 e in
        let l = ap length (tie-step w legal j b.0 (omega arith)) in
        let n = ap (λ (o : Option ℕ). length (tie_at t o)) e in
        let a = tie-longer in
        tied-if (and_intro (get_or set s false) (leb 2 number) m (le-leb 2 number (omega arith))) ∙ top

  -- what it tells of the contenders
  pub tied-yes : (i : ℕ) → tied_at t set s ≡ Some i → (tied ≡ true) × (contenders t s ≡ tie_from t i)
  tied-yes i e = go (is tied)
    where
      go : Is tied → (tied ≡ true) × (contenders t s ≡ tie_from t i)
      go (yes-is q) = (q, contenders-top w legal s ∙ ap (tie_at t) (sym (tied-if q) ∙ e))
      go (no-is q) = absurd (none-some (sym (tied-not q) ∙ e))

  pub tied-no : tied_at t set s ≡ None → tied ≡ false
  tied-no e = go (is tied)
    where
      go : Is tied → tied ≡ false
      go (no-is q) = q
      go (yes-is q) =
          let l = ap length (contenders-top w legal s ∙ ap (tie_at t) (sym (tied-if q) ∙ e)) in
          let h = leb-true 2 number (and_both (get_or set s false) (leb 2 number) q).1 in
          absurd (omega arith)

-- ---- the ties of a set of the n states, from state s on

-- two words and the leaves
abbrev pub words_of : List ℕ → ℕ
words_of ls = 2 + length ls

unfoldable pub ties_on : Table → ℕ → List Bool → ℕ → List (List ℕ)
ties_on t n set s = map (contenders t) (chosen_on n set (λ u. leb 2 (length (contenders t u))) s)

module _ (t : Table) (n : ℕ) (set : List Bool) where
  pub ties-end : ties_on t n set n ≡ []
  unfolding ties_on
  ties-end = rw (chosen-end n set (λ u. leb 2 (length (contenders t u))))

  -- state s, and those after it
  module _ (s : ℕ) (h : s < n) where
    ties-pass : (get_or set s false && leb 2 (length (contenders t s))) ≡ false → ties_on t n set s ≡ ties_on t n set (suc s)
    unfolding ties_on
    ties-pass q = ap (map (contenders t)) (chosen-pass n set (λ u. leb 2 (length (contenders t u))) s h q)

    ties-more : (get_or set s false && leb 2 (length (contenders t s))) ≡ true → ties_on t n set s ≡ contenders t s ∷ ties_on t n set (suc s)
    unfolding ties_on
    ties-more q = ap (map (contenders t)) (chosen_more n set (λ u. leb 2 (length (contenders t u))) s h q)

-- ---- all of them, sorted, as conflicts

module _ (w : List ℕ) (set : List Bool) where
  pub ties-sorted : ties (table_of w) (take (get_or w 0 0) set) ≡ map disambiguation (sorted (ties_on (table_of w) (get_or w 0 0) set 0))
  unfolding ties ties_on
  ties-sorted =
      let n = get_or w 0 0 in
      rw (
        size_is w,
        select-whole set (below n) n (let l = length-tab 0 n (λ i. i) in omega arith),
        those-map (λ ls. leb 2 (length ls)) (contenders (table_of w)) (select set (below n)),
        chosen-all n set (λ u. leb 2 (length (contenders (table_of w) u))),
      )

words-length : (l : List (List ℕ)) → length (flat_map error_words (map disambiguation l)) ≡ total words_of l
unfolding flat_map
words-length [] = refl
words-length (ls ∷ l) =
    let e = words-length l in
    let a = length-append (error_words (disambiguation ls)) (flat_map error_words (map disambiguation l)) in
    omega arith

module _ (w : List ℕ) (set : List Bool) where
  abbrev all : List (List ℕ)
  all = ties_on (table_of w) (get_or w 0 0) set 0

  pub ties-number : length (ties (table_of w) (take (get_or w 0 0) set)) ≡ length all
  ties-number = ap length (ties-sorted w set) ∙ length-map (sorted all) disambiguation ∙ sorted-length all

  pub ties-words : length (flat_map error_words (ties (table_of w) (take (get_or w 0 0) set))) ≡ total words_of all
  ties-words = ap (λ (l : List Error). length (flat_map error_words l)) (ties-sorted w set) ∙ words-length (sorted all) ∙ sorted-total words_of all

-- ---- one state down, as a loop goes: its state is passed, or begins the list

module _ (table : legal.Table) (set : List Bool) (s : ℕ) (some : 0 < s) (inside : s ≤ get_or table.words.now 0 0) where
  abbrev w : List ℕ
  w = table.words.now

  abbrev down : List (List ℕ)
  down = ties_on (table_of w) (get_or w 0 0) set (s - 1)

  abbrev here : List (List ℕ)
  here = ties_on (table_of w) (get_or w 0 0) set s

  back : ties_on (table_of w) (get_or w 0 0) set (suc (s - 1)) ≡ here
  back = let e : suc (s - 1) ≡ s = omega arith in ap (ties_on (table_of w) (get_or w 0 0) set) e

  pub down-free : tied_at (table_of w) set (s - 1) ≡ None → down ≡ here
  down-free e = ties-pass (table_of w) (get_or w 0 0) set (s - 1) (omega arith) (tied-no w table.legal set (s - 1) e) ∙ back

  pub down-tied : (r : Record) → r.table ≡ table → tied_at (table_of w) set (s - 1) ≡ Some r.number → down ≡ tie_of r ∷ here
  down-tied r of e =
      let (q, k) = tied-yes w table.legal set (s - 1) r.number e in
      let c : contenders (table_of w) (s - 1) ≡ tie_of r = k ∙ ap (λ (u : legal.Table). tie_from (table_of u.words.now) r.number) (sym of) in
      ties-more (table_of w) (get_or w 0 0) set (s - 1) (omega arith) q ∙ (let b = back in cc)

-- ---- counted from the last state down to s

pub record Counted (w : List ℕ) (set : List Bool) (s errors words : ℕ) : Type 0 where
  pub inside : s ≤ get_or w 0 0
  pub few : errors + s ≤ get_or w 0 0
  pub short : words ≤ (2 + most_leaves) * errors
  pub number : errors ≡ length (ties_on (table_of w) (get_or w 0 0) set s)
  pub sum : words ≡ total words_of (ties_on (table_of w) (get_or w 0 0) set s)

pub counted_none : (w : List ℕ) (set : List Bool) → Counted w set (get_or w 0 0) 0 0
counted_none w set =
    let e = ties-end (table_of w) (get_or w 0 0) set in
    record { inside = omega arith; few = omega arith; short = omega arith; number = sym (ap length e); sum = sym (ap (total words_of) e) }

module _ (w : List ℕ) (set : List Bool) (s errors words : ℕ) (some : 0 < s) (c : Counted w set s errors words) where
  pub counted-pass : ties_on (table_of w) (get_or w 0 0) set (s - 1) ≡ ties_on (table_of w) (get_or w 0 0) set s → Counted w set (s - 1) errors words
  counted-pass e =
      let i = c.inside in
      let f = c.few in
      record { inside = omega arith; few = omega arith; short = c.short; number = c.number ∙ sym (ap length e); sum = c.sum ∙ sym (ap (total words_of) e) }

  pub counted-more : (ls : List ℕ) (k : ℕ) → k ≡ length ls → k ≤ most_leaves
      → ties_on (table_of w) (get_or w 0 0) set (s - 1) ≡ ls ∷ ties_on (table_of w) (get_or w 0 0) set s → Counted w set (s - 1) (errors + 1) (words + (2 + k))
  counted-more ls k q b e =
      let i = c.inside in
      let f = c.few in
      let g = c.short in
      let n = c.number in
      let m = c.sum in
      let a = ap length e in
      let d = ap (total words_of) e in
      record { inside = omega arith; few = omega arith; short = omega arith; number = omega arith; sum = omega arith }
