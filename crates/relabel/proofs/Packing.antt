-- All rows that stay move together in place: what stands in the words after some rows, and that in the end they are the buffer of the relabelled
-- graph. Assumes nothing.
use Rattle.std.specs.Prelude.{Option, None, unwrap_or}
use mathlib.Core.Path.{◌≡◌, refl, sym, ap, subst, ◌∙◌}
use mathlib.Core.Bool.{true}
use mathlib.Core.List.{List, [], ◌∷◌, ◌++◌}
use mathlib.Core.Logic.{◌⊎◌, inl, inr, ⊎_elim}
use Prim.Native.Nat.{ℕ, ◌+◌, ◌-◌, ◌≤◌, ◌<◌}
use native.Mathlib.Nat.{not-suc-le-zero, eq-or-lt_of_le}
use native.Mathlib.Omega.{arith}
use borrow.Author.Tests.{lt-ltb}
use lib.ListN.{length, get_or, set, drop, replicate, length-map, length-append, length-set, length-replicate, get_or-append, get_or-replicate}
use lib.Seq.{sets, length-sets, get_or-append_seam, get_or-set_same}
use Rattle.lists.proofs.Buffers.{sets-within, sets-away, same_after}
use Rattle.graph_rules.specs.Layout.{step_count, no_state, row_words, marks_place, graph_place, graph_size, no_leaf, marks_word}
use Rattle.graph_rules.specs.Graph.{State, Graph, blank, state_of, to, accept_of, early_of, or_none, graph_from, graph_fits, written_on}
use Rattle.graph_rules.specs.Build.{renamed, relabel}
use Rattle.graph_rules.proofs.Fits.{Fits}
use Rattle.graph_rules.proofs.Flat.{from-to}
use Rattle.graph_rules.proofs.Rename.{led, relabel-to, relabel-accept, relabel-early}
use Rattle.graph_rules.proofs.Taken.{taken-few, taken-long}
use Rattle.relabel.specs.Names.{Moved}
use Rattle.words.proofs.GraphWords.{accept-is, early-is}
use Rattle.words.proofs.Buffers.{written}
use Rattle.relabel.proofs.Rows.{renamed-is}

-- row i is that of a state, renamed
pub record Row (names : List (Option ℕ)) (st : State) (i : ℕ) (w : List ℕ) : Type 0 where
  pub targets : (c : ℕ) → c < step_count → get_or w (graph_place i c) 0 ≡ unwrap_or (led names (get_or st.steps c None)) no_state
  pub marks : get_or w (graph_place i marks_place) 0 ≡ marks_word (unwrap_or st.accept no_leaf) (unwrap_or st.early no_leaf)

module _ (names : List (Option ℕ)) (st : State) (i : ℕ) (v w : List ℕ) where
  -- it stays where its words do
  row_stays : ((c : ℕ) → c < row_words → get_or w (graph_place i c) 0 ≡ get_or v (graph_place i c) 0) → Row names st i v → Row names st i w
  row_stays same r = record { targets = λ c h. same c (omega arith) ∙ r.targets c h; marks = same marks_place (omega arith) ∙ r.marks }

-- w₀: the words at the beginning; rest: the states that stay, of those before s
pub record Packed (names : List (Option ℕ)) (rest : List State) (s : ℕ) (w₀ w : List ℕ) : Type 0 where
  pub len : length w ≡ length w₀
  pub rows : (i : ℕ) → i < length rest → Row names (get_or rest i blank) i w
  pub others : (i : ℕ) → (i < 2) ⊎ (graph_place s 0 ≤ i) → get_or w i 0 ≡ get_or w₀ i 0

module _ (names : List (Option ℕ)) (w₀ : List ℕ) where
  pub packed_none : Packed names [] 0 w₀ w₀
  packed_none = record { len = refl; rows = λ i h. absurd (not-suc-le-zero h); others = λ i h. refl }

  pub packed-skip : (rest : List State) (s : ℕ) (w : List ℕ) → Packed names rest s w₀ w → Packed names rest (s + 1) w₀ w
  packed-skip rest s w p =
      record { len = p.len; rows = p.rows; others = λ i h. p.others i (⊎_elim (λ l. inl l) (λ l. inr (omega arith)) h) }

  module _ (taken : graph_fits w₀ ≡ true) (rest : List State) (s : ℕ) (h : s < get_or w₀ 0 0) (few : length rest ≤ s) (v w : List ℕ)
      (p : Packed names rest s w₀ v) (m : Moved names s (length rest) row_words v w) where
    abbrev k : ℕ
    k = length rest

    abbrev all : List State
    all = rest ++ (state_of (graph_from w₀) s ∷ [])

    -- row s has not changed before it moves
    before : (c : ℕ) → get_or v (graph_place s c) 0 ≡ get_or w₀ (graph_place s c) 0
    before c = p.others (graph_place s c) (inr (omega arith))

    new_row : Row names (state_of (graph_from w₀) s) k w
    unfolding to accept_of early_of
    new_row =
        record {
          targets = λ c b.
              m.words c (omega arith) ∙ (rw (lt-ltb c step_count b)) ∙ renamed-is names (get_or v (graph_place s c) 0)
              ∙ ap (λ (o : Option ℕ). unwrap_or (led names o) no_state) (ap (or_none no_state) (before c) ∙ sym (from-to w₀ (taken-long w₀ taken) s h c b));
          marks =
              let a = accept-is w₀ taken s h in
              let b = early-is w₀ taken s h in
              m.words marks_place (omega arith) ∙ before marks_place ∙ omega arith;
        }

    old_row : (i : ℕ) → i < k → Row names (get_or all i blank) i w
    old_row i l =
        rw (get_or-append rest (state_of (graph_from w₀) s ∷ []) blank i l)
        (row_stays names (get_or rest i blank) i v w (λ c b. m.others (graph_place i c) (inl (omega arith))) (p.rows i l))

    row_at : (i : ℕ) → i < length all → Row names (get_or all i blank) i w
    row_at i l =
        let e : length all ≡ k + 1 = length-append rest (state_of (graph_from w₀) s ∷ []) in
        let b : i ≤ k = omega arith in
        ⊎_elim
        (λ q. subst (λ (j : ℕ). Row names (get_or all j blank) j w) (sym q) (rw (get_or-append_seam rest (state_of (graph_from w₀) s) [] blank) new_row))
        (λ q. old_row i q)
        (eq-or-lt_of_le b)

    pub packed-row : Packed names (rest ++ (state_of (graph_from w₀) s ∷ [])) (s + 1) w₀ w
    packed-row =
        record {
          len = m.len ∙ p.len;
          rows = row_at;
          others = λ i o.
              ⊎_elim (λ l. m.others i (inl (omega arith)) ∙ p.others i (inl l)) (λ l. m.others i (inr (omega arith)) ∙ p.others i (inr (omega arith))) o;
        }

-- ---- all rows have been passed, the vacated ones become zero, and count and root are written

module _ (names : List (Option ℕ)) (w₀ : List ℕ) (taken : graph_fits w₀ ≡ true) (rest : List State) (root : ℕ)
    (fits : Fits no_leaf (get_or w₀ 0 0) (relabel names rest root)) (few : length rest ≤ get_or w₀ 0 0)
    (w : List ℕ) (p : Packed names rest (get_or w₀ 0 0) w₀ w) where
  abbrev n : ℕ
  n = get_or w₀ 0 0

  abbrev new : Graph
  new = relabel names rest root

  abbrev head : List ℕ
  head = length rest ∷ (new.root ∷ [])

  abbrev zeros : List ℕ
  zeros = replicate (graph_place n 0 - graph_place (length rest) 0) 0

  abbrev zeroed : List ℕ
  zeroed = sets w (graph_place (length rest) 0) zeros

  long : graph_size n ≤ length zeroed
  long = let a = p.len in omega (arith, taken-long w₀ taken, length-sets w (graph_place (length rest) 0) zeros)

  -- past the root, the words before the zeros and after them are those before
  past : (i : ℕ) → 2 ≤ i → (i < graph_place (length rest) 0) ⊎ (graph_place n 0 ≤ i) → get_or (sets zeroed 0 head) i 0 ≡ get_or w i 0
  past i h o =
      let z = length-replicate {A = ℕ} (graph_place n 0 - graph_place (length rest) 0) 0 in
      sets-away 0 zeroed 0 head i (inr h)
      ∙ sets-away 0 w (graph_place (length rest) 0) zeros i (⊎_elim (λ l. inl l) (λ l. inr (omega arith)) o)

  kept_row : (i : ℕ) → i < length rest → Row names (get_or rest i blank) i (sets zeroed 0 head)
  kept_row i h =
      row_stays names (get_or rest i blank) i w (sets zeroed 0 head) (λ c b. past (graph_place i c) (omega arith) (inl (omega arith))) (p.rows i h)

  size : length new.states ≡ length rest
  unfolding relabel
  size = length-map rest (renamed names)

  after : drop (graph_size n) (sets zeroed 0 head) ≡ drop (graph_size n) w₀
  after =
      same_after 0 (graph_size n) w₀ (sets zeroed 0 head)
      (length-sets zeroed 0 head ∙ length-sets w (graph_place (length rest) 0) zeros ∙ p.len)
      (λ i h. past i (omega arith) (inr (omega arith)) ∙ p.others i (inr (omega arith)))

  pub packed_all :
      sets (sets w (graph_place (length rest) 0) (replicate (graph_place (get_or w₀ 0 0) 0 - graph_place (length rest) 0) 0)) 0
      (length rest ∷ ((relabel names rest root).root ∷ []))
      ≡ written_on (get_or w₀ 0 0) (relabel names rest root) w₀
  packed_all =
      let l = long in
      let e = size in
      let hl = length-sets zeroed 0 head in
      rw (← after)
      (written no_leaf n (omega arith) (taken-few w₀ taken) new fits (sets zeroed 0 head) (omega arith)
      (sets-away 0 (set zeroed 0 (length rest)) 1 (new.root ∷ []) 0 (inl (omega arith)) ∙ get_or-set_same zeroed 0 (length rest) 0 (omega arith) ∙ sym e)
      (get_or-set_same (set zeroed 0 (length rest)) 1 new.root 0 (let y = length-set zeroed 0 (length rest) in omega arith))
      (λ i c h b. (kept_row i (omega arith)).targets c b ∙ ap (λ (o : Option ℕ). unwrap_or o no_state) (sym (relabel-to names rest root i c)))
      (λ i h.
      let a = relabel-accept names rest root i in
      let b = relabel-early names rest root i in
      (kept_row i (omega arith)).marks ∙ rw (a, b))
      (λ i h k.
      let z = length-replicate {A = ℕ} (graph_place n 0 - graph_place (length rest) 0) 0 in
      let y = length-sets w (graph_place (length rest) 0) zeros in
      sets-away 0 zeroed 0 head i (inr (omega arith))
      ∙ sets-within 0 w (graph_place (length rest) 0) zeros i (omega arith) (omega arith) (omega arith)
      ∙ get_or-replicate (graph_place n 0 - graph_place (length rest) 0) (i - graph_place (length rest) 0) 0 0 (omega arith)))
