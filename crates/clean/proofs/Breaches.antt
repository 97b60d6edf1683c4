-- The first rule that a table breaks, by cases: of its start, its leaves that can be empty, and what is found at its states. The build has a tie just if
-- a reached state is tied. Assumes nothing.
use Rattle.std.specs.Prelude.{Option, Some, None, Ok, Err}
use mathlib.Core.Path.{◌≡◌, refl, sym, ap, ◌∙◌}
use mathlib.Core.Bool.{Bool, true, false, cond}
use mathlib.Core.List.{List, [], ◌∷◌, ◌++◌, map}
use Prim.Native.Nat.{ℕ, zero, suc, ◌-◌, ◌<◌}
use native.Mathlib.Omega.{arith}
use lib.Dec.{leb}
use lib.ListN.{length, get_or, replicate}
use Rattle.lists.specs.Lists.{below, those, select, sorted}
use Rattle.lists.proofs.Sorted.{sorted-length}
use Rattle.graph_rules.specs.Table.{Table, table_of, refusal, size}
use Rattle.graph_rules.specs.Build.{disambiguation, build, build_from, empty_leaves, contenders, reached, ties}
use Rattle.graph_rules.specs.Clean.{first, reached_from, tied, first_error, error_at, zero_dead, zero_at, endless, end_at, first_breach, breach}
use Rattle.graph_rules.proofs.Counts.{size_is, reached-size}
use Rattle.refusals.specs.Refusals.{numbered, answered}
use Rattle.clean.specs.Answers.{clean_of}
use Rattle.clean.specs.Held.{lowest_in}
use Rattle.lists.proofs.Those.{those-map}
use Rattle.clean.proofs.Lowest.{lowest-padded}
use Rattle.graph_rules.specs.Layout.{no_state, most_states}

module _ (t : Table) where
  -- ---- rule 1

  pub error-no-start : t.start ≡ None → error_at t ≡ Some no_state
  unfolding error_at build
  error-no-start e = ap (λ (o : Option ℕ). first_error t (build_from t o (empty_leaves t)).errors) e

  pub error-empty : (s : ℕ) → t.start ≡ Some s → (empty_leaves t ≡ [] → ⊥) → error_at t ≡ Some no_state
  unfolding error_at build
  error-empty s e n = ap (λ (o : Option ℕ). first_error t (build_from t o (empty_leaves t)).errors) e ∙ go (empty_leaves t) n
    where
      go : (l : List ℕ) → (l ≡ [] → ⊥) → first_error t (build_from t (Some s) l).errors ≡ Some no_state
      go [] n = absurd (n refl)
      go (x ∷ l) n = refl

  -- a conflict of ties: at the lowest reached state that is tied
  module _ (s : ℕ) (e : t.start ≡ Some s) where
    abbrev states : List ℕ
    states = select (reached t s) (below (size t))

    tie-place : (m : List (List ℕ)) → 0 < length m → first_error t (map disambiguation m) ≡ Some (get_or (those (tied t) states) 0 no_state)
    tie-place [] h = absurd (omega arith)
    tie-place (ls ∷ m) h = ap (λ (o : Option ℕ). Some (get_or (reached_from t o (tied t)) 0 no_state)) e

    ties-place : first_error t (ties t (reached t s)) ≡ first (those (tied t) states)
    unfolding ties tied
    ties-place =
        ap (λ (l : List (List ℕ)). first_error t (map disambiguation (sorted l))) (those-map (λ ls. leb 2 (length ls)) (contenders t) states)
        ∙ go (those (tied t) states) refl
      where
        go : (l : List ℕ) → those (tied t) states ≡ l → first_error t (map disambiguation (sorted (map (contenders t) l))) ≡ first l
        go [] q = refl
        go (u ∷ l) q =
            let n = sorted-length (map (contenders t) (u ∷ l)) in
            tie-place (sorted (map (contenders t) (u ∷ l))) (omega arith) ∙ ap (λ (x : List ℕ). Some (get_or x 0 no_state)) q

    pub error-ties : empty_leaves t ≡ [] → error_at t ≡ first (those (tied t) states)
    unfolding error_at build
    error-ties z = (λ i. first_error t (build_from t (e i) (z i)).errors) ∙ ties-place

    pub end-place : end_at t ≡ first (those (endless t) states)
    unfolding end_at
    end-place = ap (λ (o : Option ℕ). first (reached_from t o (endless t))) e

  -- ---- the first that is broken

  pub breaks-first : (s : ℕ) → error_at t ≡ Some s → breach t ≡ Some (record { rule = 1; state = s })
  unfolding breach
  breaks-first s e = ap (λ (o : Option ℕ). first_breach 1 (o ∷ zero_at t ∷ end_at t ∷ [])) e

  module _ (no-error : error_at t ≡ None) where
    pub breaks-second : zero_dead t ≡ false → breach t ≡ Some (record { rule = 2; state = 0 })
    unfolding breach zero_at
    breaks-second e = λ i. first_breach 1 (no-error i ∷ cond (e i) None (Some 0) ∷ end_at t ∷ [])

    module _ (dead : zero_dead t ≡ true) where
      pub breaks-third : (s : ℕ) → end_at t ≡ Some s → breach t ≡ Some (record { rule = 3; state = s })
      unfolding breach zero_at
      breaks-third s e = λ i. first_breach 1 (no-error i ∷ cond (dead i) None (Some 0) ∷ e i ∷ [])

      pub breaks-none : end_at t ≡ None → breach t ≡ None
      unfolding breach zero_at
      breaks-none e = λ i. first_breach 1 (no-error i ∷ cond (dead i) None (Some 0) ∷ e i ∷ [])

-- ---- what is found at the states of a table that has a start and no leaf that can be empty

module _ (w : List ℕ) (s : ℕ) (st : (table_of w).start ≡ Some s) (set : List Bool)
    (at : set ≡ reached (table_of w) s ++ replicate (most_states - get_or w 0 0) false) where
  lowest-states : (p : ℕ → Bool) → lowest_in w set p ≡ first (those p (select (reached (table_of w) s) (below (size (table_of w)))))
  lowest-states p =
      let n = size_is w in
      ap (λ (x : List Bool). lowest_in w x p) at
      ∙ lowest-padded w (reached (table_of w) s) (most_states - get_or w 0 0) p (reached-size w s)
      ∙ ap (λ (k : ℕ). first (those p (select (reached (table_of w) s) (below k)))) (sym n)

  pub error-found : empty_leaves (table_of w) ≡ [] → (o : Option ℕ) → o ≡ lowest_in w set (tied (table_of w)) → error_at (table_of w) ≡ o
  error-found none-empty o e = error-ties (table_of w) s st none-empty ∙ sym (e ∙ lowest-states (tied (table_of w)))

  pub end-found : (o : Option ℕ) → o ≡ lowest_in w set (endless (table_of w)) → end_at (table_of w) ≡ o
  end-found o e = end-place (table_of w) s st ∙ sym (e ∙ lowest-states (endless (table_of w)))

-- ---- the call

module _ (w : List ℕ) where
  pub clean-refused : (n : ℕ) → n ≡ refusal w → (n ≡ 0 → ⊥) → clean_of w ≡ Err (numbered n)
  unfolding clean_of
  clean-refused zero e f = absurd (f refl)
  clean-refused (suc n) e f = ap (λ (k : ℕ). answered k (breach (table_of w))) (sym e)

  pub clean-answered : refusal w ≡ 0 → clean_of w ≡ Ok (breach (table_of w))
  unfolding clean_of
  clean-answered e = ap (λ (k : ℕ). answered k (breach (table_of w))) e
