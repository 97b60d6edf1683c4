-- What the words of a legal table say through `Table`. Assumes nothing.
use Rattle.std.specs.Prelude.{Option, Some, None, unwrap_or, IfSome}
use mathlib.Core.Path.{◌≡◌, sym, ap, ap₂, subst, ◌∙◌}
use mathlib.Core.List.{List}
use mathlib.Core.Logic.{⊎_elim}
use Prim.Native.Nat.{ℕ, ◌+◌, ◌*◌, ◌≤◌, ◌<◌}
use native.Mathlib.Omega.{arith}
use borrow.Author.Tests.{eqb-true, eqb-false}
use lib.Dec.{eqb}
use lib.ListN.{length, get_or, take, drop, length-drop}
use lib.Seq.{length-take-le, ext_get_or, get_or-take, get_or-drop}
use Rattle.lists.proofs.Bools.{Is, is, yes-is, no-is}
use Rattle.graph_rules.proofs.Counts.{size_is}
use Rattle.graph_rules.proofs.Shape.{start_none, start-some, legal-width, legal-step}
use Rattle.graph_rules.specs.Layout.{step_count, no_state, most_states, table_row, head_place, most_leaves, most_matches, leaf_place, row_place, match_place}
use Rattle.graph_rules.specs.Table.{Table, table_of, row_of, leaf_at, match_of, step, refusal}
use Rattle.graph_rules.proofs.Flat.{step-word, head-word, priority-word, empty-word}
use Rattle.graph_rules.specs.Graph.{or_none}
use Rattle.graph_rules.proofs.Nones.{or_word, or_some}
use Rattle.words.proofs.Views.{within}
use Rattle.legal.specs.declared.Table as legal
use Rattle.legal.specs.declared.Record.{Record}
use Rattle.legal.specs.Records.{number_of}
use Rattle.legal.proofs.Judging.{match-leaf, match-next}
use Rattle.legal.proofs.Legal.{legal-means, legal-sized}

module _ (w : List ℕ) (legal : refusal w ≡ 0) where
  pub four : 4 ≤ length w
  four = (legal-sized w legal).four

  pub some-states : 1 ≤ get_or w 0 0
  some-states = (legal-sized w legal).some-state

  pub few-states : get_or w 0 0 ≤ most_states
  few-states = (legal-sized w legal).few-states

  pub few-leaves : get_or w 2 0 ≤ most_leaves
  few-leaves = (legal-sized w legal).few-leaves

  pub few-records : get_or w 3 0 ≤ most_matches
  few-records = (legal-sized w legal).few-records

  -- ---- places

  pub in-leaf : (l c : ℕ) → l < get_or w 2 0 → c < 3 → leaf_place l c < length w
  in-leaf l c h b = let z = legal-sized w legal in omega arith

  pub in-row : (m s c : ℕ) → m ≡ get_or w 2 0 → s < get_or w 0 0 → c < table_row → row_place m s c < length w
  in-row m s c e h b = let z = legal-sized w legal in omega arith

  pub in-match : (m n i c : ℕ) → m ≡ get_or w 2 0 → n ≡ get_or w 0 0 → 0 < i → i ≤ get_or w 3 0 → c < 2 → match_place m n i c < length w
  in-match m n i c e f p h b = let z = legal-sized w legal in omega arith

  -- ---- the start

  module _ (s : ℕ) (o : Option ℕ) (e : s ≡ get_or w 1 0) (q : o ≡ or_none no_state s) where
    pub start-of : o ≡ (table_of w).start
    start-of = q ∙ go (is (eqb s no_state))
      where
        go : Is (eqb s no_state) → or_none no_state s ≡ (table_of w).start
        go (yes-is z) = rw z (sym (start_none w (sym e ∙ eqb-true s no_state z)))
        go (no-is z) = rw z (ap {B = Option ℕ} Some e ∙ sym (start-some w (λ k. eqb-false s no_state z (e ∙ k))))

    pub start-below : IfSome o (λ s. s < get_or w 0 0)
    start-below = within o (λ s. s < get_or w 0 0) no_state s q (λ z. ⊎_elim (λ l. omega arith) (λ l. absurd (z (e ∙ l))) (legal-means w legal).start)

  -- ---- words by what they say: m and n are what the code has read of the counts, x and y of the words

  pub step-is : (m s c x : ℕ) → m ≡ get_or w 2 0 → s < get_or w 0 0 → c < step_count → x ≡ get_or w (row_place m s c) 0
      → (x ≡ step (table_of w) s c) × (x < get_or w 0 0)
  step-is m s c x e h b q =
      let k = ap (λ (m : ℕ). get_or w (row_place m s c) 0) e in
      let z = (legal-means w legal).targets s c h b in
      (q ∙ k ∙ sym (step-word w s c h b), omega arith)

  -- the words of a row's steps, in one
  module _ (m s : ℕ) (e : m ≡ get_or w 2 0) (h : s < get_or w 0 0) where
    pub steps-count : length (row_of (table_of w) s).steps ≡ step_count
    steps-count = legal-width w legal s (rw (size_is w) h)

    pub steps-are : take step_count (drop (row_place m s 0) w) ≡ (row_of (table_of w) s).steps
    unfolding step
    steps-are =
        let z = legal-sized w legal in
        let n = steps-count in
        let l : length (take step_count (drop (row_place m s 0) w)) ≡ step_count = length-take-le step_count (drop (row_place m s 0) w) (let d = length-drop (row_place m s 0) w in omega arith) in
        ext_get_or 0 (take step_count (drop (row_place m s 0) w)) (row_of (table_of w) s).steps (omega arith)
        (λ c b.
        let b' : c < step_count = omega arith in
        get_or-take step_count (drop (row_place m s 0) w) c 0 b'
        ∙ get_or-drop (row_place m s 0) w c 0
        ∙ ap (λ (i : ℕ). get_or w i 0) (omega arith)
        ∙ sym (step-word w s c h b'))

    pub steps-below : (c : ℕ) → get_or (row_of (table_of w) s).steps c 0 < get_or w 0 0
    unfolding step
    steps-below c = subst (λ (n : ℕ). step (table_of w) s c < n) (size_is w) (legal-step w legal s c (rw (size_is w) h))

  pub head-is : (m s x : ℕ) → m ≡ get_or w 2 0 → s < get_or w 0 0 → x ≡ get_or w (row_place m s head_place) 0
      → (x ≡ (row_of (table_of w) s).head) × (x ≤ get_or w 3 0)
  head-is m s x e h q =
      let k = ap (λ (m : ℕ). get_or w (row_place m s head_place) 0) e in
      let z = (legal-means w legal).heads s h in
      (q ∙ k ∙ sym (head-word w s h), omega arith)

  pub priority-is : (l x y : ℕ) → l < get_or w 2 0 → x ≡ get_or w (leaf_place l 0) 0 → y ≡ get_or w (leaf_place l 1) 0
      → x + 65536 * y ≡ (leaf_at (table_of w) l).priority
  priority-is l x y h p q = ap₂ (λ (a b : ℕ). a + 65536 * b) p q ∙ sym (priority-word w l h)

  pub empty-is : (l x : ℕ) → l < get_or w 2 0 → x ≡ get_or w (leaf_place l 2) 0 → x ≡ (leaf_at (table_of w) l).empty
  empty-is l x h p = p ∙ sym (empty-word w l h)

  -- of a record
  module _ (i x : ℕ) (some : 0 < i) (there : i ≤ get_or w 3 0) where
    pub leaf-is : x ≡ get_or w (match_place (get_or w 2 0) (get_or w 0 0) i 0) 0 → (x ≡ (match_of (table_of w) i).leaf) × (x < get_or w 2 0)
    leaf-is q = let z = ((legal-means w legal).matches i some there).leaf-below in (q ∙ sym (match-leaf w i some there), omega arith)

    pub next-is : x ≡ get_or w (match_place (get_or w 2 0) (get_or w 0 0) i 1) 0 → (x ≡ (match_of (table_of w) i).next) × (x < i)
    next-is q = let z = ((legal-means w legal).matches i some there).next-below in (q ∙ sym (match-next w i some there), omega arith)

-- ---- the record that a word names, if it names one

pub named-lower : (o : Option Record) (x k : ℕ) → number_of o ≡ or_none 0 x → x < k → IfSome o (λ r. r.number < k)
named-lower None x k e h = tt
named-lower (Some r) x k e h = let z = (or_some 0 x r.number (sym e)).0 in omega arith

-- what is known of its number is known of it
pub named-at : {A : Type 0} (f : Table → ℕ → A) (t : legal.Table) (x : ℕ) (a : A) → f (table_of t.words.now) 0 ≡ a
    → (o : Option Record) → number_of o ≡ or_none 0 x → IfSome o (λ r. r.table ≡ t)
    → f (table_of t.words.now) x ≡ elim o [ None ↦ a | Some r ↦ f (table_of r.table.words.now) r.number ]
named-at f t x a z None e q = ap (f (table_of t.words.now)) (sym (or_word 0 x) ∙ ap (λ (o : Option ℕ). unwrap_or o 0) (sym e)) ∙ z
named-at f t x a z (Some r) e q =
    ap (f (table_of t.words.now)) (or_some 0 x r.number (sym e)).0 ∙ ap (λ (u : legal.Table). f (table_of u.words.now) r.number) (sym q)

-- a walk from record to record ends
pub falls : (o : Option Record) (i : Record) → IfSome o (λ r. r.number < i.number) → unwrap_or (number_of o) 0 < i.number
falls None i h = i.some
falls (Some r) i h = h
