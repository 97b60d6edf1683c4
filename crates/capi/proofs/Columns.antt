-- A block of columns of 128 bytes, each filled from the front: every entry has a byte in each of them. Assumes nothing.
use borrow.Rule.Slice.PartMut.{put_mid}
use Rattle.std.proofs.Common.{◌≡◌, ℕ, zero, suc, refl, ◌∷◌, ◌+◌, ◌-◌, ◌<◌, ◌≤◌, List, ◌++◌, map, length, sym, ap, ◌∙◌, arith}
use Rattle.std.proofs.lemmas.List.{append-nil, append_assoc, take_at, drop_at, length-append, length-map, length-take-le, length-replicate, replicate-append-replicate, length-set, map-append, map_more, take_all, set-append_left, set-append_right}
use lib.ListN.{get_or, set, take, replicate}
use Rattle.classes.specs.ClassAnswers.{row}
use Rattle.classes.proofs.Rows.{row-push}

map-replicate : {A : Type 0} (v : A → ℕ) (z : A) (n : ℕ) → map v (replicate n z) ≡ replicate n (v z)
map-replicate v z zero = refl
map-replicate v z (suc n) = ap (λ (l : List ℕ). v z ∷ l) (map-replicate v z n)

map-row : {A : Type 0} (v : A → ℕ) (z : A) (l : List A) → map v (row z l) ≡ row (v z) (map v l)
unfolding row
map-row v z l = simp (map-append, map-replicate, length-map)

-- a store behind the first n
set-behind : (a b : List ℕ) (n i x : ℕ) → length a ≡ n → set (a ++ b) (n + i) x ≡ a ++ set b i x
set-behind a b n i x e =
    let k : n + i - n ≡ i = omega arith in
    set-append_right a b n (n + i) x e (omega arith) ∙ ap (λ m. a ++ set b m x) k

-- ---- one column

module _ {A : Type 0} (v : A → ℕ) (xs : List A) where
  -- the bytes of the first i entries, then zeros
  abbrev pub column : ℕ → List ℕ
  column i = row 0 (map v (take i xs))

  taken-length : (i : ℕ) → i ≤ length xs → length (map v (take i xs)) ≡ i
  taken-length i h = length-map (take i xs) v ∙ length-take-le i xs h

  column-length : (i : ℕ) → i ≤ length xs → i ≤ 128 → length (column i) ≡ 128
  unfolding row
  column-length i h k = rw (length-append (map v (take i xs)) _, length-replicate {A = ℕ} _ 0) (omega (arith, taken-length i h))

  column-next : (d : A) (i : ℕ) → i < length xs → i < 128 → set (column i) i (v (get_or xs i d)) ≡ column (i + 1)
  column-next d i h k =
      let l = map v (take i xs) in
      let x = v (get_or xs i d) in
      let e : length l ≡ i = taken-length i (omega arith) in
      ap (λ n. set (row 0 l) n x) (sym e) ∙ row-push 0 l x (omega arith) ∙ ap (row 0) (sym (map_more v xs i d h))

  -- all of them, where an unused entry's byte is zero
  pub column-all : (z : A) (i : ℕ) → v z ≡ 0 → length xs ≤ i → column i ≡ map v (row z xs)
  column-all z i e h = rw (take_all i xs h, map-row v z xs, e)

-- ---- two

module _ {A : Type 0} (v w : A → ℕ) (xs : List A) where
  abbrev pub two : ℕ → List ℕ
  two i = column v xs i ++ column w xs i

  pub two-none : replicate 256 0 ≡ two 0
  unfolding row
  two-none = sym (replicate-append-replicate 128 128 0)

  two-length : (i : ℕ) → i ≤ length xs → i ≤ 128 → length (two i) ≡ 256
  two-length i h k = omega (arith, length-append (column v xs i) (column w xs i), column-length v xs i h k, column-length w xs i h k)

  pub two-next : (d : A) (i : ℕ) → i < length xs → i < 128 → set (set (two i) i (v (get_or xs i d))) (128 + i) (w (get_or xs i d)) ≡ two (i + 1)
  two-next d i h k =
      let x = get_or xs i d in
      let n = column-length v xs i (omega arith) (omega arith) in
      rw (
        set-append_left (column v xs i) (column w xs i) i (v x) (omega arith),
        column-next v xs d i h k,
        set-behind (column v xs (i + 1)) (column w xs i) 128 i (w x) (column-length v xs (i + 1) (omega arith) (omega arith)),
        column-next w xs d i h k,
      )

-- ---- three, and room for 128 bytes behind them

module _ {A : Type 0} (v w u : A → ℕ) (xs : List A) where
  abbrev pub three : ℕ → List ℕ
  three i = two v w xs i ++ (column u xs i ++ replicate 128 0)

  pub three-none : replicate 512 0 ≡ three 0
  unfolding row
  three-none = refl

  pub three-next : (d : A) (i : ℕ) → i < length xs → i < 128
      → set (set (set (three i) i (v (get_or xs i d))) (128 + i) (w (get_or xs i d))) (256 + i) (u (get_or xs i d)) ≡ three (i + 1)
  three-next d i h k =
      let x = get_or xs i d in
      let n = two-length v w xs i (omega arith) (omega arith) in
      let m = column-length u xs i (omega arith) (omega arith) in
      rw (
        set-append_left (two v w xs i) (column u xs i ++ replicate 128 0) i (v x) (omega arith),
        set-append_left (set (two v w xs i) i (v x)) (column u xs i ++ replicate 128 0) (128 + i) (w x) (omega (arith, length-set (two v w xs i) i (v x))),
        two-next v w xs d i h k,
        set-behind (two v w xs (i + 1)) (column u xs i ++ replicate 128 0) 256 i (u x) (two-length v w xs (i + 1) (omega arith) (omega arith)),
        set-append_left (column u xs i) (replicate 128 0) i (u x) (omega arith),
        column-next u xs d i h k,
      )

  -- the room filled
  pub three-filled : (i : ℕ) → i ≤ length xs → i ≤ 128 → (l : List ℕ) → put_mid 384 128 (three i) l ≡ two v w xs i ++ (column u xs i ++ l)
  three-filled i h k l =
      let a = two v w xs i in
      let b = column u xs i in
      let n : length (a ++ b) ≡ 384 = omega (arith, length-append a b, two-length v w xs i h k, column-length u xs i h k) in
      rw (← append_assoc a b (replicate 128 0), take_at (a ++ b) (replicate 128 0) 384 n, drop_at (a ++ b) (replicate 128 0) 384 n, append-nil l) (append_assoc a b l)
