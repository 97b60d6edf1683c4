-- Rows of a plan, one after another: a buffer that is filled row by row, and a list that is compared with them. Assumes nothing.
use native.Mathlib.Numerals.{add-one}
use mathlib.Core.Path.{◌≡◌, refl, subst, sym, ap, transport, ◌∙◌}
use mathlib.Core.Bool.{true}
use mathlib.Core.List.{List, [], ◌++◌, flat_map, append_assoc, append-nil}
use Prim.Native.Nat.{ℕ, zero, suc, ◌+◌, ◌*◌, ◌-◌, ◌≤◌, ◌<◌}
use native.Mathlib.Omega.{arith}
use lib.Dec.{eqb}
use lib.ListN.{length, take, drop}
use lib.Seq.{sets, drop_at, take_at, take-add, take-take}
use Rattle.lists.specs.Lists.{below, eq_list}
use Rattle.lists.proofs.Bools.{is}
use Rattle.lists.proofs.Judged.{Judged}
use Rattle.lists.proofs.Buffers.{Filled, filled-run}
use Rattle.lists.proofs.Elements.{eqb-sound, list-sound, length-tab}
use Rattle.lists.proofs.Members.{flat_map-one}
use Rattle.lists.proofs.Those.{below_last}
use Rattle.lists.proofs.Flattened.{length-flat}
use Rattle.plan_rules.specs.Plan.{base, row_size, own_place}

-- ---- rows that a function gives

module _ {A : Type 0} (f : ℕ → List A) where
  -- those below s
  abbrev pub rows_to : ℕ → List A
  rows_to s = flat_map f (below s)

  pub rows_more : (s : ℕ) → rows_to (s + 1) ≡ rows_to s ++ f s
  rows_more s = ap (flat_map f) (below_last s) ∙ flat_map-one f (below s) s

  -- and those from s on
  pub rows-front : (s k : ℕ) → (rest : List A) × (rows_to (s + k) ≡ rows_to s ++ rest)
  rows-front s zero = let n : s + 0 ≡ s = omega arith in ([], ap rows_to n ∙ sym (append-nil (rows_to s)))
  rows-front s (suc k) =
      let (rest, e) = rows-front s k in
      let n : s + suc k ≡ (s + k) + 1 = omega arith in
      (rest ++ f (s + k), ap rows_to n ∙ rows_more (s + k) ∙ ap (λ (l : List A). l ++ f (s + k)) e ∙ append_assoc (rows_to s) rest (f (s + k)))

module _ (f : ℕ → List ℕ) (wide : (s : ℕ) → length (f s) ≡ row_size base) where
  pub rows-length : (s : ℕ) → length (rows_to f s) ≡ own_place base s
  rows-length s = omega (arith, length-flat (row_size base) f (below s) wide, length-tab 0 s (λ i. i))

  -- ---- a buffer that is filled with them

  pub filled_row : {found out after row : List ℕ} (s : ℕ) → Filled found (rows_to f s) out → row ≡ f s → own_place base s + row_size base ≤ length found → after ≡ sets out (own_place base s) row
      → Filled found (rows_to f (s + 1)) after
  filled_row {found} {out} s filled e h is =
      let run = filled-run (own_place base s) (f s) filled (rows-length s) (omega (arith, wide s)) in
      let made = is ∙ ap (sets out (own_place base s)) e in
      let text = rows_more f s in
      transport (λ i. Filled found (sym text i) (sym made i)) run

  pub filled-rows : {found out : List ℕ} (s n : ℕ) → Filled found (rows_to f s) out → s ≡ n → out ≡ rows_to f n ++ drop (n * row_size base) found
  filled-rows {found} {out} s n filled e =
      let k : length (rows_to f s) ≡ n * row_size base = omega (arith, rows-length s) in
      filled.holds ∙ (λ i. rows_to f (e i) ++ drop (k i) found)

  -- ---- a list that is compared with them

  module _ (plan : List ℕ) where
    -- the rows below s are there
    abbrev pub Agrees : ℕ → Type 0
    Agrees s = take (own_place base s) plan ≡ rows_to f s

    pub agrees-more : (s : ℕ) → Agrees s → eq_list eqb (take (row_size base) (drop (own_place base s) plan)) (f s) ≡ true → Agrees (s + 1)
    agrees-more s a e =
        let n : own_place base (s + 1) ≡ own_place base s + row_size base = omega arith in
        let row : take (row_size base) (drop (own_place base s) plan) ≡ f s = (list-sound eqb eqb-sound).eq (take (row_size base) (drop (own_place base s) plan)) (f s) e in
        ap (λ (k : ℕ). take k plan) n
        ∙ take-add (own_place base s) (row_size base) plan
        ∙ (λ i. a i ++ row i)
        ∙ sym (rows_more f s)

    pub agrees-all : (s n : ℕ) → Agrees s → s ≡ n → eq_list eqb (take (n * row_size base) plan) (rows_to f n) ≡ true
    agrees-all s n a e =
        let k : n * row_size base ≡ own_place base s = omega arith in
        let same : take (n * row_size base) plan ≡ rows_to f n = ap (λ (m : ℕ). take m plan) k ∙ a ∙ ap (rows_to f) e in
        ap (eq_list eqb (take (n * row_size base) plan)) (sym same) ∙ (list-sound eqb eqb-sound).self (take (n * row_size base) plan)

    -- where all are there, those below k are
    front : (k n : ℕ) → k ≤ n → take (n * row_size base) plan ≡ rows_to f n → Agrees k
    front k n h all =
        let (rest, e) = rows-front f k (n - k) in
        let m : n ≡ k + (n - k) = omega arith in
        sym (take-take (own_place base k) (n * row_size base) plan (omega arith))
        ∙ ap (take (own_place base k)) (all ∙ ap (rows_to f) m ∙ e)
        ∙ take_at (rows_to f k) rest (own_place base k) (rows-length k)

    -- a row is there
    abbrev pub Same : ℕ → Type 0
    Same s = eq_list eqb (take (row_size base) (drop (own_place base s) plan)) (f s) ≡ true

    -- one after another, as far as they are there
    rows-agree : (k : ℕ) → ((s : ℕ) → s < k → Same s) → Agrees k
    unfolding flat_map
    rows-agree zero a = refl
    rows-agree (suc k) a = subst Agrees (add-one k) (agrees-more k (rows-agree k (λ s h. a s (omega arith))) (a k (omega arith)))

    row-there : (s n : ℕ) → s < n → take (n * row_size base) plan ≡ rows_to f n → take (row_size base) (drop (own_place base s) plan) ≡ f s
    row-there s n h all =
        let row = take (row_size base) (drop (own_place base s) plan) in
        let k : own_place base s + row_size base ≡ own_place base (s + 1) = omega arith in
        let both : rows_to f s ++ row ≡ rows_to f s ++ f s =
        ap (λ (l : List ℕ). l ++ row) (sym (front s n (omega arith) all))
        ∙ sym (take-add (own_place base s) (row_size base) plan)
        ∙ ap (λ (m : ℕ). take m plan) k
        ∙ front (s + 1) n (omega arith) all
        ∙ rows_more f s
        in
        sym (drop_at (rows_to f s) row (own_place base s) (rows-length s)) ∙ ap (drop (own_place base s)) both ∙ drop_at (rows_to f s) (f s) (own_place base s) (rows-length s)

    pub rows-judged : {n k : ℕ} → n ≡ k → Judged (eq_list eqb (take (k * row_size base) plan) (rows_to f k)) n Same
    rows-judged {n} {k} e =
        record {
          all = λ a. agrees-all n k (rows-agree n a) e;
          each = λ q s h.
              let there = row-there s k (omega arith) ((list-sound eqb eqb-sound).eq (take (k * row_size base) plan) (rows_to f k) q) in
              ap (λ (l : List ℕ). eq_list eqb l (f s)) there ∙ (list-sound eqb eqb-sound).self (f s);
        }
