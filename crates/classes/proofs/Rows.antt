-- An array filled from the front: the next entry, another last one, and what is read. Assumes nothing.
use mathlib.Core.Path.{◌≡◌, refl, sym, ap, ◌∙◌}
use mathlib.Core.List.{List, [], ◌∷◌, ◌++◌}
use Prim.Native.Nat.{ℕ, suc, ◌+◌, ◌-◌, ◌≤◌, ◌<◌}
use native.Mathlib.Omega.{arith}
use lib.ListN.{length, get_or, set, take, replicate, length-append, length-replicate, get_or-append}
use lib.Seq.{set-append_seam, get_or-append_seam, append_snoc, take-append-add, take-append_seam}
use Rattle.classes.specs.ClassAnswers.{row}

module _ {A : Type 0} (z : A) where
  pub row-none : row z [] ≡ replicate 128 z
  unfolding row
  row-none = refl

  pub row_at : (l : List A) (i : ℕ) (d : A) → i < length l → get_or (row z l) i d ≡ get_or l i d
  unfolding row
  row_at l i d h = get_or-append l (replicate (128 - length l) z) d i h

  pub row-long : (l : List A) → 128 ≤ length (row z l)
  unfolding row
  row-long l = rw (length-append l (replicate (128 - length l) z), length-replicate {A = A} (128 - length l) z) (omega arith)

  -- as far as it is in use
  pub row-used : (l : List A) → take (length l) (row z l) ≡ l
  unfolding row
  row-used l = take-append_seam l (replicate (128 - length l) z)

  -- and further
  pub row-front : (l : List A) (n : ℕ) → length l ≤ n → take n (row z l) ≡ l ++ take (n - length l) (replicate (128 - length l) z)
  unfolding row
  row-front l n h =
      let e : n ≡ length l + (n - length l) = omega arith in
      ap (λ (k : ℕ). take k (row z l)) e ∙ take-append-add l (replicate (128 - length l) z) (n - length l)

  one_more_lem : (l : List A) (v : A) → length (l ++ v ∷ []) ≡ suc (length l)
  one_more_lem l v = simp length-append (omega arith)

  -- entries, one that may yet change, and the zeros
  row_snoc : (l : List A) (v : A) → length l < 128 → row z (l ++ v ∷ []) ≡ l ++ v ∷ replicate (127 - length l) z
  unfolding row
  row_snoc l v h =
      let e : 128 - length (l ++ v ∷ []) ≡ 127 - length l = omega (arith, one_more_lem l v) in
      rw e (append_snoc l v (replicate (127 - length l) z))

  -- an unused entry counts as one that is zero
  row_zero : (l : List A) → length l < 128 → row z (l ++ z ∷ []) ≡ row z l
  unfolding row
  row_zero l h = let e : 128 - length l ≡ suc (127 - length l) = omega arith in row_snoc l z h ∙ rw e

  -- another last entry
  pub row_last : (l : List A) (v w : A) → length l < 128 → set (row z (l ++ v ∷ [])) (length l) w ≡ row z (l ++ w ∷ [])
  row_last l v w h = rw (row_snoc l v h, row_snoc l w h) (set-append_seam l v (replicate (127 - length l) z) w)

  -- the next entry
  pub row-push : (l : List A) (v : A) → length l < 128 → set (row z l) (length l) v ≡ row z (l ++ v ∷ [])
  row-push l v h = ap (λ (r : List A). set r (length l) v) (sym (row_zero l h)) ∙ row_last l z v h

  -- the last entry read
  pub row-latest : (l : List A) (v d : A) → length l < 128 → get_or (row z (l ++ v ∷ [])) (length l) d ≡ v
  row-latest l v d h = rw (row_snoc l v h) (get_or-append_seam l v (replicate (127 - length l) z) d)
