-- The table that comes in (docs/FORMATS.md, "Table"): its words taken apart once, and the refusals 1 to 7. Definitions only. They are total: of words
-- that are refused, `table_of` means nothing.
use Rattle.std.specs.Prelude.{Bool, true, false, ◌&&◌, ◌||◌, List, [], ◌∷◌, map, ℕ, zero, suc, ◌+◌, ◌*◌, eqb, leb, ltb, length, get_or, take, drop, Option, Some, None}
use Rattle.lists.specs.Lists.{all_l, below, pieces}
use Rattle.graph_rules.specs.Layout.{step_count, no_state, most_states, table_row, head_place, most_leaves, most_matches, table_length}

pub record Leaf : Type 0 where
  pub priority : ℕ
  pub empty : ℕ  -- 1: it can match empty text

pub record Row : Type 0 where
  pub steps : List ℕ  -- 257 targets: of the bytes 0 to 255, and at 256 of the end step
  pub head : ℕ  -- of the match chain; 0: the chain is empty

-- a match record; they are numbered from 1
pub record Match : Type 0 where
  pub leaf : ℕ
  pub next : ℕ  -- 0: the chain ends

pub record Table : Type 0 where
  pub start : Option ℕ  -- none: no universal start
  pub leaves : List Leaf
  pub rows : List Row
  pub matches : List Match

-- ---- the words: n, start, m, r; then three a leaf, a row a state, two a match record

unfoldable pub table_of : List ℕ → Table
table_of w =
    let n = get_or w 0 0 in
    let start = get_or w 1 0 in
    let m = get_or w 2 0 in
    let r = get_or w 3 0 in
    record {
      start = elim (eqb start no_state) [ true ↦ None | false ↦ Some start ];
      leaves = map (λ p. record { priority = get_or p 0 0 + 65536 * get_or p 1 0; empty = get_or p 2 0 }) (pieces 3 m (drop 4 w));
      rows = map (λ p. record { steps = take step_count p; head = get_or p head_place 0 }) (pieces table_row n (drop (4 + 3 * m) w));
      matches = map (λ p. record { leaf = get_or p 0 0; next = get_or p 1 0 }) (pieces 2 r (drop (4 + 3 * m + table_row * n) w));
    }

-- ---- views

unfoldable pub size : Table → ℕ
size t = length t.rows

unfoldable pub row_of : Table → ℕ → Row
row_of t s = get_or t.rows s (record { steps = []; head = 0 })

-- the target of state s for byte c, or for the end step, c = 256
unfoldable pub step : Table → ℕ → ℕ → ℕ
step t s c = get_or (row_of t s).steps c 0

unfoldable pub leaf_at : Table → ℕ → Leaf
leaf_at t l = get_or t.leaves l (record { priority = 0; empty = 0 })

-- record number i
unfoldable pub match_of : Table → ℕ → Match
match_of t zero = record { leaf = 0; next = 0 }
match_of t (suc i) = get_or t.matches i (record { leaf = 0; next = 0 })

-- ---- "Refused because of the input", 1 to 7

-- record number i: "leaf is below m, its next is below its own number, and the leaf at next is greater"
unfoldable pub match_fits : Table → ℕ → Bool
match_fits t i =
    let r = match_of t i in
    ltb r.leaf (length t.leaves) && (ltb r.next i && (eqb r.next 0 || ltb r.leaf (match_of t r.next).leaf))

-- 2: "n, m or r out of range"
unfoldable pub counts_fit : ℕ → ℕ → ℕ → Bool
counts_fit n m r = leb 1 n && (leb n most_states && (leb m most_leaves && leb r most_matches))

-- 5: "empty flag above 1"
unfoldable pub empties_fit : List ℕ → Bool
empties_fit w = all_l (λ l. leb l.empty 1) (table_of w).leaves

-- 6: "a target not below n"
unfoldable pub targets_fit : List ℕ → Bool
targets_fit w = all_l (λ row. all_l (λ u. ltb u (get_or w 0 0)) row.steps) (table_of w).rows

-- 7: "head above r, or a record breaks its rule"
unfoldable pub heads_fit : List ℕ → Bool
heads_fit w = all_l (λ row. leb row.head (get_or w 3 0)) (table_of w).rows

unfoldable pub records_fit : List ℕ → Bool
records_fit w = all_l (λ i. match_fits (table_of w) (suc i)) (below (get_or w 3 0))

-- the conditions, in order
unfoldable pub conditions : List ℕ → List Bool
conditions w =
    let n = get_or w 0 0 in
    let start = get_or w 1 0 in
    let m = get_or w 2 0 in
    let r = get_or w 3 0 in
    leb 4 (length w) ∷  -- 1
    counts_fit n m r ∷  -- 2
    eqb (length w) (table_length n m r) ∷  -- 3
    (ltb start n || eqb start no_state) ∷  -- 4
    empties_fit w ∷  -- 5
    targets_fit w ∷  -- 6
    (heads_fit w && records_fit w) ∷ []  -- 7

-- "lowest number first": the number, from k, of the first condition that does not hold; 0 if all hold
abbrev pub first_broken : ℕ → List Bool → ℕ
first_broken k [] = 0
first_broken k (true ∷ l) = first_broken (suc k) l
first_broken k (false ∷ l) = k

unfoldable pub refusal : List ℕ → ℕ
refusal w = first_broken 1 (conditions w)
