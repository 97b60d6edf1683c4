-- The words of a conflict list, from one of its conflicts on: that one's, and those of the rest. The leaves that can be empty, one by one. Assumes nothing.
use mathlib.Core.Path.{◌≡◌, refl, sym, ap, ◌∙◌}
use mathlib.Core.List.{List, [], ◌∷◌, ◌++◌, map, flat_map}
use Prim.Native.Nat.{ℕ, suc, ◌+◌, ◌-◌, ◌*◌, ◌≤◌, ◌<◌}
use native.Mathlib.Numerals.{add-one}
use native.Mathlib.Omega.{arith}
use borrow.Author.Tests.{eq-eqb, ne_eqb}
use lib.Dec.{eqb}
use lib.ListN.{length, get_or, drop, drop_of_length-le}
use lib.Seq.{sets, drop-cons}
use Rattle.lists.specs.Lists.{tab, those}
use Rattle.lists.proofs.Buffers.{sets-front}
use Rattle.lists.proofs.Runs.{Underway}
use Rattle.graph_rules.specs.Table.{Table, table_of, leaf_at}
use Rattle.graph_rules.specs.Build.{Error, empty_match, disambiguation, error_words, empty_leaves}
use Rattle.graph_rules.proofs.Counts.{leaves-length}
use Rattle.leaves.specs.Chains.{tie_from}
use Rattle.conflicts.specs.Listed.{listed}

-- a list's words, all written from the front
pub run-listed : (errors : List Error) {words found out rest : List ℕ} {at : ℕ} → words ≡ flat_map error_words errors → rest ≡ []
    → length words ≤ length found → Underway found 0 words out at rest → out ≡ listed errors found
run-listed errors {words} {found} {out} {rest} {at} e z room u =
    ap (sets out at) (sym z) ∙ u.same ∙ sets-front found words room ∙ ap (λ (l : List ℕ). l ++ drop (length l) found) e

-- ---- ties, by the records where they begin

unfoldable pub tie_words : Table → List ℕ → List ℕ
tie_words t l = flat_map error_words (map disambiguation (map (tie_from t) l))

module _ (t : Table) (l : List ℕ) (k : ℕ) where
  pub ties-on : k < length l → tie_words t (drop k l) ≡ error_words (disambiguation (tie_from t (get_or l k 0))) ++ tie_words t (drop (k + 1) l)
  unfolding tie_words flat_map
  ties-on h = rw (drop-cons l k 0 h, add-one k)

  pub ties-over : length l ≤ k → tie_words t (drop k l) ≡ []
  unfolding tie_words flat_map
  ties-over h = rw (drop_of_length-le l {i = k} h)

-- ---- leaves that can be empty, from leaf l on, of m

unfoldable pub empties_on : Table → ℕ → ℕ → List ℕ
empties_on t m l = those (λ l. eqb (leaf_at t l).empty 1) (tab l (m - l) (λ i. i))

unfoldable pub empty_words : List ℕ → List ℕ
empty_words l = flat_map error_words (map empty_match l)

module _ (t : Table) (m : ℕ) where
  pub empties-over : empties_on t m m ≡ []
  unfolding empties_on
  empties-over = let e : m - m ≡ 0 = omega arith in rw e

  module _ (l : ℕ) (h : l < m) where
    leaf-on : tab l (m - l) (λ i. i) ≡ l ∷ tab (l + 1) (m - (l + 1)) (λ i. i)
    leaf-on =
        let e : m - l ≡ suc (m - (l + 1)) = omega arith in
        ap (λ (k : ℕ). tab l k (λ i. i)) e ∙ ap (λ (j : ℕ). l ∷ tab j (m - (l + 1)) (λ i. i)) (sym (add-one l))

    pub empties-yes : (leaf_at t l).empty ≡ 1 → empties_on t m l ≡ l ∷ empties_on t m (l + 1)
    unfolding empties_on
    empties-yes e = rw (leaf-on) (rw (eq-eqb (leaf_at t l).empty 1 e, those))

    pub empties-no : ((leaf_at t l).empty ≡ 1 → ⊥) → empties_on t m l ≡ empties_on t m (l + 1)
    unfolding empties_on
    empties-no e = rw (leaf-on) (rw (ne_eqb (leaf_at t l).empty 1 e, those))

pub empties-all : (w : List ℕ) → empties_on (table_of w) (get_or w 2 0) 0 ≡ empty_leaves (table_of w)
unfolding empties_on empty_leaves
empties-all w = let e : get_or w 2 0 - 0 ≡ get_or w 2 0 = omega arith in rw (leaves-length w, e)

-- three words a leaf
pub empty-words : (l : List ℕ) → length (flat_map error_words (map empty_match l)) ≡ 3 * length l
unfolding flat_map
empty-words [] = refl
empty-words (x ∷ l) = let e = empty-words l in omega arith
