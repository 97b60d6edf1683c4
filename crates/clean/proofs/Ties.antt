-- A state is tied just if its chain is not empty and it has no leaf: the highest priority of a chain is that of one of its leaves, so one leaf at least
-- contends. A chain is empty just if its head is 0. Assumes nothing.
use Rattle.std.specs.Prelude.{Option, Some, None, unwrap_or}
use Rattle.std.specs.Option.{is_some, is_none}
use mathlib.Core.Path.{◌≡◌, refl, sym, ap, ◌∙◌}
use mathlib.Core.Bool.{Bool, true, false, false≢true}
use mathlib.Core.List.{List, [], ◌∷◌, map}
use mathlib.Core.Logic.{⊎_elim}
use Prim.Native.Nat.{ℕ, zero, suc, ◌<◌}
use native.Mathlib.Omega.{arith}
use borrow.Author.Tests.{eq-eqb, ne_eqb, eqb-true, eqb-false, le-leb, lt-leb}
use lib.Dec.{eqb, leb}
use lib.ListN.{length}
use Rattle.lists.specs.Lists.{any_l, those}
use Rattle.lists.proofs.Bools.{Is, is, yes-is, no-is, none-some, or_left, or_right, lt-or-le}
use Rattle.graph_rules.specs.Table.{Table, row_of, leaf_at, match_of}
use Rattle.graph_rules.specs.Build.{chain_from, chain, highest, contenders, single, leaf_of}
use Rattle.graph_rules.specs.Clean.{tied}
use Rattle.graph_rules.specs.Graph.{or_none}
use Rattle.graph_rules.proofs.Nones.{or_word, or_some}
use Rattle.legal.specs.declared.Record.{Record}
use Rattle.legal.specs.Records.{number_of}

-- ---- the highest of a list's values is that of one of its elements

module _ (f : ℕ → ℕ) where
  highest-one : (x : ℕ) (l : List ℕ) (h : ℕ) → h ≡ highest (map f (x ∷ l)) → any_l (λ y. eqb (f y) h) (x ∷ l) ≡ true
  highest-one x [] h e = or_left (eqb (f x) h) false (eq-eqb (f x) h (omega arith))
  highest-one x (z ∷ l) h e =
      let rest = highest-one z l in
      ⊎_elim
      (λ b. or_right (eqb (f x) h) _ (rest h (omega arith)))
      (λ b. or_left (eqb (f x) h) _ (eq-eqb (f x) h (omega arith)))
      (lt-or-le (f x) h)

some-those : (p : ℕ → Bool) (l : List ℕ) → any_l p l ≡ true → 0 < length (those p l)
some-those p [] e = absurd (false≢true e)
some-those p (x ∷ l) e = go (is (p x)) (some-those p l)
  where
    go : Is (p x) → (any_l p l ≡ true → 0 < length (those p l)) → 0 < length (those p (x ∷ l))
    go (yes-is q) f = rw (q, those) (omega arith)
    go (no-is q) f = rw (q, those) (f (rw q at e))

-- ---- the leaf of a list of contenders, and how many they are

single-few : (c : List ℕ) (l : ℕ) → single c ≡ Some l → leb 2 (length c) ≡ false
single-few [] l e = absurd (none-some e)
single-few (x ∷ []) l e = refl
single-few (x ∷ (y ∷ c)) l e = absurd (none-some e)

no-single : (c : List ℕ) → single c ≡ None → 0 < length c → leb 2 (length c) ≡ true
no-single [] e h = absurd (omega arith)
no-single (x ∷ []) e h = absurd (none-some (sym e))
no-single (x ∷ (y ∷ c)) e h = le-leb 2 (length (x ∷ (y ∷ c))) (omega arith)

module _ (t : Table) (s : ℕ) where
  pub chain-none : (row_of t s).head ≡ 0 → chain t s ≡ []
  unfolding chain
  chain-none e = ap (λ (h : ℕ). chain_from t h h) e

  chain-some : ((row_of t s).head ≡ 0 → ⊥) → (l : ℕ) × (ls : List ℕ) × (chain t s ≡ l ∷ ls)
  unfolding chain
  chain-some n = go (row_of t s).head n
    where
      go : (h : ℕ) → (h ≡ 0 → ⊥) → (l : ℕ) × (ls : List ℕ) × (chain_from t h h ≡ l ∷ ls)
      go zero n = absurd (n refl)
      go (suc h) n = ((match_of t (suc h)).leaf, chain_from t h (match_of t (suc h)).next, rw (ne_eqb (suc h) 0 n, chain_from))

  pub chain_head : length (chain t s) ≡ 0 → (row_of t s).head ≡ 0
  chain_head e = go (is (eqb (row_of t s).head 0))
    where
      go : Is (eqb (row_of t s).head 0) → (row_of t s).head ≡ 0
      go (yes-is q) = eqb-true (row_of t s).head 0 q
      go (no-is q) = let (l, ls, e') = chain-some (eqb-false (row_of t s).head 0 q) in let n = ap length e' in absurd (omega arith)

  -- its first record, if there is one, has a number that is not 0
  headless : None ≡ or_none 0 (row_of t s).head → (row_of t s).head ≡ 0
  headless e = sym (or_word 0 (row_of t s).head) ∙ ap (λ (o : Option ℕ). unwrap_or o 0) (sym e)

  headed : (i : ℕ) → Some i ≡ or_none 0 (row_of t s).head → (row_of t s).head ≡ 0 → ⊥
  headed i e = (or_some 0 (row_of t s).head i (sym e)).1

  pub chain-is : (o : Option Record) → number_of o ≡ or_none 0 (row_of t s).head → is_none o ≡ eqb (length (chain t s)) 0
  chain-is None e = ap (λ (l : List ℕ). eqb (length l) 0) (sym (chain-none (headless e)))
  chain-is (Some r) e = sym (ne_eqb (length (chain t s)) 0 (λ z. headed r.number e (chain_head z)))

  contenders-none : (row_of t s).head ≡ 0 → length (contenders t s) ≡ 0
  unfolding contenders
  contenders-none e = rw (chain-none e)

  contenders-some : ((row_of t s).head ≡ 0 → ⊥) → 0 < length (contenders t s)
  unfolding contenders
  contenders-some n =
      let (l, ls, e) = chain-some n in
      let h = highest (map (λ l. (leaf_at t l).priority) (l ∷ ls)) in
      rw e (some-those (λ l. eqb (leaf_at t l).priority h) (l ∷ ls) (highest-one (λ l. (leaf_at t l).priority) l ls h refl))

  -- ---- a tie, by the state's leaf and the first record of its chain

  pub tied-leaf : (o : Option ℕ) → o ≡ leaf_of t s → is_some o ≡ true → tied t s ≡ false
  unfolding tied leaf_of
  tied-leaf None e q = absurd (false≢true q)
  tied-leaf (Some l) e q = single-few (contenders t s) l (sym e)

  pub tied-head : (o : Option ℕ) → o ≡ leaf_of t s → is_some o ≡ false → (r : Option Record) → number_of r ≡ or_none 0 (row_of t s).head → is_some r ≡ tied t s
  unfolding tied leaf_of
  tied-head (Some l) e q r at = absurd (false≢true (sym q))
  tied-head None e q None at = let n = contenders-none (headless at) in sym (lt-leb 2 (length (contenders t s)) (omega arith))
  tied-head None e q (Some r) at = sym (no-single (contenders t s) (sym e) (contenders-some (headed r.number at)))
