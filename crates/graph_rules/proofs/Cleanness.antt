-- Clean tables both ways (`clean-means`, `clean-shown`): a legal table that the test finds clean is `Clean`, and one that is `Clean` is found so.
-- Each rule goes by its own test: where it is broken at no state, it holds, and the other way round. Assumes nothing.
use Rattle.std.specs.Prelude.{Option, Some, None}
use mathlib.Core.Path.{◌≡◌, refl, sym, ap, ◌∙◌}
use mathlib.Core.Bool.{Bool, true, false, cond, false≢true}
use mathlib.Core.List.{List, [], ◌∷◌, map}
use Prim.Native.Nat.{ℕ, ◌<◌}
use native.Mathlib.Omega.{arith}
use borrow.Author.Tests.{eqb-true, eq-eqb}
use lib.Dec.{eqb}
use lib.ListN.{length, get_or, take, length-map}
use lib.Seq.{length-take-le, get_or-take}
use Rattle.lists.specs.Sets.{In}
use Rattle.lists.specs.Lists.{all_l, below, those, select}
use Rattle.lists.proofs.Bools.{Is, is, yes-is, no-is, and_both, and_intro, none-some}
use Rattle.lists.proofs.Elements.{length-nil, all-at, all-intro, length-tab, get_or-tab0, map_at}
use Rattle.lists.proofs.Selecting.{none_passes, passes_none}
use Rattle.graph_rules.specs.Table.{Table, table_of, refusal, size, row_of, step}
use Rattle.graph_rules.specs.Build.{Error, build, chain, leaf_of, reached, present, agreed}
use Rattle.graph_rules.specs.Read.{Clean}
use Rattle.graph_rules.specs.Clean.{first, reached_from, first_error, error_at, zero_dead, zero_at, bytes_leaf, endless, end_at, first_breach, breach, unbroken, is_clean}
use Rattle.graph_rules.proofs.Agreed.{agreed-at, agreed-all}
use Rattle.graph_rules.proofs.Counts.{size_is}
use Rattle.graph_rules.proofs.Shape.{Shaped, legal-shaped, some-state}
use Rattle.graph_rules.proofs.Unpruned.{reached-below}
use Rattle.graph_rules.specs.Layout.{end_step, step_count}

-- the three places, where no rule is broken
all-unbroken : (a b c : Option ℕ) → unbroken (first_breach 1 (a ∷ b ∷ c ∷ [])) ≡ true → (a ≡ None) × (b ≡ None) × (c ≡ None)
all-unbroken None None None e = (refl, refl, refl)
all-unbroken None None (Some s) e = absurd (false≢true e)
all-unbroken None (Some s) c e = absurd (false≢true e)
all-unbroken (Some s) b c e = absurd (false≢true e)

first-none : (l : List ℕ) → first l ≡ None → l ≡ []
first-none [] e = refl
first-none (s ∷ l) e = absurd (none-some (sym e))

-- ---- rule 1

no-errors : (t : Table) (errors : List Error) → first_error t errors ≡ None → errors ≡ []
no-errors t [] e = refl
no-errors t (x ∷ errors) e = absurd (none-some (sym e))

present-some : (o : Option ℕ) → present o ≡ true → (l : ℕ) × (o ≡ Some l)
present-some None e = absurd (false≢true e)
present-some (Some l) e = (l, refl)

module _ (t : Table) (sh : Shaped t) where
  -- ---- rule 2

  zero-steps-all : 0 < size t → ((c : ℕ) → c < step_count → step t 0 c ≡ 0) → all_l (eqb 0) (row_of t 0).steps ≡ true
  unfolding step
  zero-steps-all z f =
      let w = sh.width 0 z in all-intro (eqb 0) (row_of t 0).steps 0 (λ c h. eq-eqb 0 _ (sym (f c (omega arith))))

  all-zero-steps : 0 < size t → all_l (eqb 0) (row_of t 0).steps ≡ true → (c : ℕ) → c < step_count → step t 0 c ≡ 0
  unfolding step
  all-zero-steps z a c h =
      let w = sh.width 0 z in sym (eqb-true 0 _ (all-at (eqb 0) (row_of t 0).steps c 0 a (omega arith)))

  -- ---- rule 3

  module _ (s : ℕ) (h : s < size t) where
    abbrev pub byte_leaves : List (Option ℕ)
    byte_leaves = map (leaf_of t) (take end_step (row_of t s).steps)

    byte-count : length (take end_step (row_of t s).steps) ≡ 256
    byte-count = let w = sh.width s h in length-take-le 256 (row_of t s).steps (omega arith)

    pub byte-leaves : length byte_leaves ≡ 256
    byte-leaves = length-map (take end_step (row_of t s).steps) (leaf_of t) ∙ byte-count

    pub byte-leaf : (b : ℕ) → b < 256 → get_or byte_leaves b None ≡ leaf_of t (step t s b)
    unfolding step
    byte-leaf b k =
        let n = byte-count in
        map_at (leaf_of t) (take end_step (row_of t s).steps) b 0 None (omega arith) ∙ ap (leaf_of t) (get_or-take end_step (row_of t s).steps b 0 k)

    pub endless-means : endless t s ≡ true → (l : ℕ) × ((b : ℕ) → b < 256 → leaf_of t (step t s b) ≡ Some l) × (step t s end_step ≡ 0)
    unfolding endless bytes_leaf
    endless-means e =
        let (p, z) = and_both (present (agreed byte_leaves)) _ e in
        let (l, q) = present-some (agreed byte_leaves) p in
        let n = byte-leaves in
        (l, λ b k. sym (byte-leaf b k) ∙ agreed-at byte_leaves l q b (omega arith), eqb-true (step t s end_step) 0 z)

    pub endless-shown : (l : ℕ) → ((b : ℕ) → b < 256 → leaf_of t (step t s b) ≡ Some l) → step t s end_step ≡ 0 → endless t s ≡ true
    unfolding endless bytes_leaf
    endless-shown l f z =
        let n = byte-leaves in
        let q : agreed byte_leaves ≡ Some l = agreed-all byte_leaves (Some l) (omega arith) (λ b k. let k' : b < 256 = omega arith in byte-leaf b k' ∙ f b k') in
        and_intro (present (agreed byte_leaves)) _ (ap present q) (eq-eqb (step t s end_step) 0 z)

    -- a state that the table reaches is not endless, just if the third rule holds of it
    pub end_kept : endless t s ≡ false → (l : ℕ) → ((b : ℕ) → b < 256 → leaf_of t (step t s b) ≡ Some l) → step t s end_step ≡ 0 → ⊥
    end_kept e l f q = false≢true (sym e ∙ endless-shown l f q)

    pub not-endless : ((l : ℕ) → ((b : ℕ) → b < 256 → leaf_of t (step t s b) ≡ Some l) → step t s end_step ≡ 0 → ⊥) → endless t s ≡ false
    not-endless f = go (is (endless t s))
      where
        go : Is (endless t s) → endless t s ≡ false
        go (no-is q) = q
        go (yes-is q) = let (l, g, e) = endless-means q in absurd (f l g e)

  -- no reached state is endless
  abbrev NoneEndless : Type 0
  NoneEndless = (s₀ s : ℕ) → t.start ≡ Some s₀ → In (reached t s₀) s → endless t s ≡ false

  states-long : length (below (size t)) ≡ size t
  states-long = length-tab 0 (size t) (λ i. i)

  state-at : (s : ℕ) → s < size t → get_or (below (size t)) s 0 ≡ s
  state-at s h = get_or-tab0 (size t) (λ i. i) s 0 h

  none-endless : end_at t ≡ None → NoneEndless
  unfolding end_at
  none-endless e s₀ s st m =
      let h : s < size t = reached-below t sh s₀ st s m in
      let n : those (endless t) (select (reached t s₀) (below (size t))) ≡ [] =
      first-none (reached_from t (Some s₀) (endless t)) (ap (λ (o : Option ℕ). first (reached_from t o (endless t))) (sym st) ∙ e) in
      ap (endless t) (sym (state-at s h)) ∙ none_passes (endless t) 0 (reached t s₀) (below (size t)) n s (rw states-long h) m

  endless-none : NoneEndless → end_at t ≡ None
  unfolding end_at
  endless-none f = go t.start refl
    where
      go : (o : Option ℕ) → t.start ≡ o → first (reached_from t t.start (endless t)) ≡ None
      go None e = ap (λ (o : Option ℕ). first (reached_from t o (endless t))) e
      go (Some s₀) e =
          ap (λ (o : Option ℕ). first (reached_from t o (endless t))) e
          ∙ ap first
          (passes_none (endless t) 0 (reached t s₀) (below (size t))
          (λ s h m. ap (endless t) (state-at s (rw states-long at h)) ∙ f s₀ s e m))

  -- ---- both ways

  module _ (z : 0 < size t) where
    zero-dead : zero_at t ≡ None → zero_dead t ≡ true
    unfolding zero_at
    zero-dead e = go (is (zero_dead t))
      where
        go : Is (zero_dead t) → zero_dead t ≡ true
        go (yes-is q) = q
        go (no-is q) = absurd (none-some (sym (rw q at e)))

    clean_found : is_clean t ≡ true → Clean t
    unfolding is_clean breach error_at zero_dead
    clean_found e =
        let (a, b, c) = all-unbroken (error_at t) (zero_at t) (end_at t) e in
        let (chained, steps) = and_both (eqb (length (chain t 0)) 0) _ (zero-dead b) in
        let ends = none-endless c in
        record {
          no-error = no-errors t (build t).errors a;
          orderly = record {
            zero-chain = length-nil (chain t 0) (eqb-true _ 0 chained);
            zero-steps = all-zero-steps z steps;
            end-too = λ s₀ s l st m. end_kept s (reached-below t sh s₀ st s m) (ends s₀ s st m) l;
          };
        }

    found-clean : Clean t → is_clean t ≡ true
    unfolding is_clean breach error_at zero_at zero_dead
    found-clean c =
        let o = c.orderly in
        let a : error_at t ≡ None = ap (first_error t) c.no-error in
        let d : zero_dead t ≡ true =
        and_intro (eqb (length (chain t 0)) 0) _ (ap (λ (l : List ℕ). eqb (length l) 0) o.zero-chain) (zero-steps-all z o.zero-steps) in
        let b : zero_at t ≡ None = ap (λ (x : Bool). cond x None (Some 0)) d in
        let e : end_at t ≡ None =
        endless-none (λ s₀ s st m. not-endless s (reached-below t sh s₀ st s m) (λ l. o.end-too s₀ s l st m)) in
        λ i. unbroken (first_breach 1 (a i ∷ b i ∷ e i ∷ []))

-- ---- the same, of words

module _ (words : List ℕ) (legal : refusal words ≡ 0) where
  some-row : 0 < size (table_of words)
  some-row = let a = some-state words legal in let b = size_is words in omega arith

  pub clean-means : is_clean (table_of words) ≡ true → Clean (table_of words)
  clean-means = clean_found (table_of words) (legal-shaped words legal) some-row

  pub clean-shown : Clean (table_of words) → is_clean (table_of words) ≡ true
  clean-shown = found-clean (table_of words) (legal-shaped words legal) some-row
