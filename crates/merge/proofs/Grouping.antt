-- A round of rule 8: the states passed are grouped with the lowest that equals each, and in the end the graph relabelled by the groups' numbers is
-- that of the round. Assumes nothing.
use Rattle.std.specs.Prelude.{Option, Some, None}
use mathlib.Core.Path.{◌≡◌, refl, sym, ap, ◌∙◌}
use mathlib.Core.Bool.{Bool, true, false, cond, false≢true}
use mathlib.Core.List.{List, [], ◌∷◌, ◌++◌}
use mathlib.Core.Logic.{⊎_elim}
use Prim.Native.Nat.{ℕ, suc, ◌+◌, ◌≤◌, ◌<◌}
use native.Mathlib.Nat.{not-suc-le-zero}
use native.Mathlib.Numerals.{add-one}
use native.Mathlib.Omega.{arith}
use borrow.Author.Count.{below_more}
use lib.ListN.{length, get_or, set, take, drop, replicate, length-map, length-append, length-set, length-replicate, get_or-eq_default}
use lib.Seq.{get_or-set_same, get_or-set_other, get_or-take, length-take-le, split_at, take-suc, take_all, take-set-le}
use Rattle.lists.specs.Lists.{any_l, select, distinct, place}
use Rattle.lists.specs.Sets.{In}
use Rattle.lists.proofs.Any.{any_at, any_found}
use Rattle.lists.proofs.Bools.{Is, is, yes-is, no-is, lt-or-le}
use Rattle.lists.proofs.Distinct.{distinct-length, distinct-new, distinct_snoc}
use Rattle.lists.proofs.Elements.{map_at}
use Rattle.lists.proofs.Padding.{replicate-at}
use Rattle.lists.proofs.Selecting.{select_in, select-out, select-whole}
use Rattle.lists.proofs.Worklist.{none_in}
use Rattle.graph_rules.specs.Graph.{State, Graph, blank, state_of, same}
use Rattle.graph_rules.specs.Build.{relabel, merge_round}
use Rattle.graph_rules.proofs.Fits.{Root}
use Rattle.graph_rules.proofs.Merge.{same-sound, names}
use Rattle.merge.specs.Equals.{Lowest}
use Rattle.relabel.specs.Names.{Fitting}
use Rattle.relabel.proofs.Naming.{relabel-alike, fitting-alike, round-fitting}
use Rattle.graph_rules.specs.Layout.{most_states}

module _ (g : Graph) where
  -- the distinct states of those before s
  abbrev pub groups : ℕ → List State
  groups s = distinct same (take s g.states)

  -- ---- one state more

  module _ (s : ℕ) (h : s < length g.states) where
    abbrev x : State
    x = state_of g s

    one_more_lem : take (s + 1) g.states ≡ take s g.states ++ (x ∷ [])
    unfolding state_of
    one_more_lem = rw add-one (take-suc g.states s blank h)

    grown : groups (s + 1) ≡ cond (any_l (same x) (take s g.states)) (groups s) (groups s ++ (x ∷ []))
    grown = ap (distinct same) one_more_lem ∙ distinct_snoc same same-sound (take s g.states) x

    at : (j : ℕ) → j < s → get_or (take s g.states) j blank ≡ state_of g j
    unfolding state_of
    at j b = get_or-take s g.states j blank b

    size : length (take s g.states) ≡ s
    size = length-take-le s g.states (omega arith)

    met : (r : ℕ) → r < s → state_of g r ≡ x → any_l (same x) (take s g.states) ≡ true
    met r b e = let z = size in any_at (same x) blank (take s g.states) r (omega arith) (ap (same x) (at r b ∙ e) ∙ same-sound.self x)

    new : ((j : ℕ) → j < s → state_of g j ≡ x → ⊥) → any_l (same x) (take s g.states) ≡ false
    new f = go (is (any_l (same x) (take s g.states)))
      where
        go : Is (any_l (same x) (take s g.states)) → any_l (same x) (take s g.states) ≡ false
        go (no-is q) = q
        go (yes-is q) =
            let (j, b, e) = any_found (same x) blank (take s g.states) q in
            let z = size in
            let b' : j < s = omega arith in
            absurd (f j b' (sym (at j b') ∙ sym (same-sound.eq x (get_or (take s g.states) j blank) e)))

    pub groups-met : (r : ℕ) → r < s → state_of g r ≡ state_of g s → groups (s + 1) ≡ groups s
    groups-met r b e = grown ∙ rw (met r b e)

    module _ (fresh : (j : ℕ) → j < s → state_of g j ≡ state_of g s → ⊥) where
      pub groups-new : groups (s + 1) ≡ groups s ++ (state_of g s ∷ [])
      groups-new = grown ∙ rw (new fresh)

      -- its place among all distinct states is the number of those before it
      pub place_is : place same (state_of g s) (distinct same g.states) ≡ Some (length (groups s))
      unfolding state_of
      place_is =
          ap (λ (l : List State). place same x (distinct same l)) (split_at g.states s blank h)
          ∙ distinct-new same same-sound (take s g.states) (drop (suc s) g.states) x (new fresh)

  -- ---- the states before s have been grouped, in k groups

  pub record Grouped (s k : ℕ) (names : List (Option ℕ)) (stay : List Bool) : Type 0 where
    pub len : length names ≡ most_states
    pub wide : length stay ≡ most_states
    pub size : k ≡ length (groups s)
    pub lowest : select (take s stay) g.states ≡ groups s
    pub twin : (e : ℕ) → e < s → get_or stay e false ≡ false → (f : ℕ) × (f < e) × (state_of g f ≡ state_of g e)
    pub named : (i : ℕ) → i < s → get_or names i None ≡ place same (state_of g i) (distinct same g.states)
    pub off : (i : ℕ) → s ≤ i → get_or stay i false ≡ false
    pub unnamed : (i : ℕ) → s ≤ i → get_or names i None ≡ None

  pub grouped-none : Grouped 0 0 (replicate most_states None) (replicate most_states false)
  grouped-none =
      record {
        len = length-replicate {A = Option ℕ} most_states None;
        wide = length-replicate {A = Bool} most_states false;
        size = refl;
        lowest = refl;
        twin = λ e h. absurd (not-suc-le-zero h);
        named = λ i h. absurd (not-suc-le-zero h);
        off = λ i h. none_in most_states i;
        unnamed = λ i h. replicate-at None most_states i;
      }

  module _ (s k : ℕ) (names : List (Option ℕ)) (stay : List Bool) (v : Grouped s k names stay) (h : s < length g.states) (small : s < most_states) where
    pub grouped-low : k ≤ s
    grouped-low =
        let a = v.size in
        let b : length (groups s) ≤ length (take s g.states) = distinct-length same same-sound (take s g.states) in
        let c = size s h in
        omega arith

    -- a state that equals none before it
    pub grouped-new : Lowest g s s → Grouped (s + 1) (k + 1) (set names s (Some k)) (set stay s true)
    unfolding state_of
    grouped-new l =
        let a = v.len in
        let b = v.wide in
        let low = grouped-low in
        let more = groups-new s h l.before in
        record {
          len = length-set names s (Some k) ∙ v.len;
          wide = length-set stay s true ∙ v.wide;
          size = (let e = v.size in let z = ap length more ∙ length-append (groups s) (state_of g s ∷ []) in omega arith);
          lowest = selected ∙ sym more;
          twin = below_more _ s (λ e b o. v.twin e b (sym (away e b) ∙ o)) (λ o. absurd (false≢true (sym o ∙ here)));
          named = below_more _ s
              (λ i b. get_or-set_other names s i (Some k) None (λ q. let z : i ≡ s = q in omega arith) ∙ v.named i b)
              (get_or-set_same names s (Some k) None (omega arith)
              ∙ ap {B = Option ℕ} Some v.size ∙ sym (place_is s h l.before));
          off = λ i b. get_or-set_other stay s i true false (λ q. let z : i ≡ s = q in omega arith) ∙ v.off i (omega arith);
          unnamed = λ i b. get_or-set_other names s i (Some k) None (λ q. let z : i ≡ s = q in omega arith) ∙ v.unnamed i (omega arith);
        }
      where
        here : In (set stay s true) s
        here = get_or-set_same stay s true false (let b = v.wide in omega arith)

        away : (e : ℕ) → e < s → get_or (set stay s true) e false ≡ get_or stay e false
        away e b = get_or-set_other stay s e true false (λ q. let z : e ≡ s = q in omega arith)

        selected : select (take (s + 1) (set stay s true)) g.states ≡ groups s ++ (state_of g s ∷ [])
        selected =
            select_in blank (set stay s true) g.states s h here
            ∙ ap (λ (l : List State). l ++ (state_of g s ∷ [])) (ap (λ (b : List Bool). select b g.states) (take-set-le s stay s true (omega arith)) ∙ v.lowest)

    -- a state that equals an earlier one has its name
    pub grouped-met : (r : ℕ) → r < s → Lowest g s r → Grouped (s + 1) k (set names s (get_or names r None)) stay
    grouped-met r b l =
        let a = v.len in
        let same-groups = groups-met s h r b l.equal in
        record {
          len = length-set names s (get_or names r None) ∙ v.len;
          wide = v.wide;
          size = v.size ∙ ap length (sym same-groups);
          lowest = select-out stay g.states s (v.off s (omega arith)) ∙ v.lowest ∙ sym same-groups;
          twin = below_more _ s v.twin (λ o. (r, b, l.equal));
          named = below_more _ s
              (λ i c. get_or-set_other names s i (get_or names r None) None (λ q. let z : i ≡ s = q in omega arith) ∙ v.named i c)
              (get_or-set_same names s (get_or names r None) None (omega arith)
              ∙ v.named r b ∙ ap (λ (y : State). place same y (distinct same g.states)) l.equal);
          off = λ i c. v.off i (omega arith);
          unnamed = λ i c. get_or-set_other names s i (get_or names r None) None (λ q. let z : i ≡ s = q in omega arith) ∙ v.unnamed i (omega arith);
        }

  -- ---- all states have been grouped

  module _ (k : ℕ) (words : List (Option ℕ)) (stay : List Bool) (v : Grouped (length g.states) k words stay) where
    whole : groups (length g.states) ≡ distinct same g.states
    whole = ap (distinct same) (take_all (length g.states) g.states (omega arith))

    pub grouped-count : k ≡ length (distinct same g.states)
    grouped-count = v.size ∙ ap length whole

    rest-is : select stay g.states ≡ distinct same g.states
    rest-is = sym (select-whole stay g.states (length g.states) (omega arith)) ∙ v.lowest ∙ whole

    alike : (u : ℕ) → get_or words u None ≡ get_or (names g) u None
    unfolding state_of
    alike u =
        ⊎_elim
        (λ h. v.named u h ∙ sym (map_at (λ s. place same s (distinct same g.states)) g.states u blank None h))
        (λ h. v.unnamed u h ∙ sym (get_or-eq_default (names g) None (rw (length-map g.states (λ s. place same s (distinct same g.states))) h)))
        (lt-or-le u (length g.states))

    pub round_is : relabel words (select stay g.states) g.root ≡ merge_round g
    unfolding merge_round
    round_is =
        ap (λ (r : List State). relabel words r g.root) rest-is
        ∙ relabel-alike words (names g) (distinct same g.states) g.root alike

    pub grouped-fitting : Root (length g.states) g.root → Fitting words (select stay g.states) g.root
    grouped-fitting root = rw rest-is (fitting-alike words (names g) (distinct same g.states) g.root alike (round-fitting g root))
