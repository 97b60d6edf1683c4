-- Texts in a row: the first, the next, none left. Assumes nothing.
use mathlib.Core.Path.{◌≡◌, refl, sym, ap, ◌∙◌}
use mathlib.Core.List.{List, [], ◌∷◌, ◌++◌, map, append_assoc}
use Prim.Native.Nat.{ℕ, suc, ◌+◌, ◌*◌, ◌≤◌, ◌<◌}
use native.Mathlib.Nat.{mul-suc}
use native.Mathlib.Numerals.{add-one}
use native.Mathlib.Omega.{arith}
use lib.ListN.{length, get_or, drop, length-append, drop_of_length-le}
use lib.Seq.{drop-cons}
use Rattle.texts.specs.Text.{after, joined}

pub after-append : (sep : List ℕ) (a b : List (List ℕ)) → after sep (a ++ b) ≡ after sep a ++ after sep b
after-append sep [] b = refl
after-append sep (t ∷ a) b =
    ap (λ (l : List ℕ). sep ++ (t ++ l)) (after-append sep a b)
    ∙ ap (λ (l : List ℕ). sep ++ l) (sym (append_assoc t (after sep a) (after sep b)))
    ∙ sym (append_assoc sep (t ++ after sep a) (after sep b))

-- a separator before the first too is no shorter
pub joined-after : (sep : List ℕ) (ts : List (List ℕ)) → length (joined sep ts) ≤ length (after sep ts)
joined-after sep [] = omega arith
joined-after sep (t ∷ ts) = let e = length-append sep (t ++ after sep ts) in omega arith

-- of texts of at most k bytes each
pub after-size : {A : Type 0} (sep : List ℕ) (f : A → List ℕ) (k : ℕ) (d : A) (l : List A) → ((i : ℕ) → i < length l → length (f (get_or l i d)) ≤ k)
    → length (after sep (map f l)) ≤ (length sep + k) * length l
after-size sep f k d [] h = omega arith
after-size sep f k d (x ∷ l) h =
    let i = after-size sep f k d l (λ i j. h (suc i) (omega arith)) in
    let one : length (f x) ≤ k = h 0 (omega arith) in
    let m = length-append sep (f x ++ after sep (map f l)) in
    let n = length-append (f x) (after sep (map f l)) in
    rw (mul-suc (length sep + k) (length l)) (omega arith)

module _ {A : Type 0} (sep : List ℕ) (f : A → List ℕ) (l : List A) where
  pub joined-none : length l ≤ 0 → joined sep (map f l) ≡ []
  joined-none h = ap (λ (k : List A). joined sep (map f k)) (drop_of_length-le l h)

  pub joined-first : (d : A) → 0 < length l → joined sep (map f l) ≡ f (get_or l 0 d) ++ after sep (map f (drop 1 l))
  joined-first d h = ap (λ (k : List A). joined sep (map f k)) (drop-cons l 0 d h)

  pub after_next : (d : A) (i : ℕ) → i < length l → after sep (map f (drop i l)) ≡ sep ++ (f (get_or l i d) ++ after sep (map f (drop (i + 1) l)))
  after_next d i h = rw (add-one i) (ap (λ (k : List A). after sep (map f k)) (drop-cons l i d h))

  pub after_none : (i : ℕ) → length l ≤ i → after sep (map f (drop i l)) ≡ []
  after_none i h = ap (λ (k : List A). after sep (map f k)) (drop_of_length-le l h)
