-- An array of arrays as a list of lists: it is known by its shape and its entries, and filled row by row. For any element type and any size. Assumes
-- nothing.
use mathlib.Core.Path.{◌≡◌, sym, ◌∙◌}
use mathlib.Core.List.{List, []}
use Prim.Native.Nat.{ℕ, ◌<◌}
use native.Mathlib.Omega.{arith}
use lib.ListN.{length, get_or}
use lib.Seq.{ext_get_or}

module _ {A : Type 0} where
  abbrev pub entry : List (List A) → ℕ → ℕ → A → A
  entry out t b d = get_or (get_or out t []) b d

  -- n rows of m entries
  pub record Shape (n m : ℕ) (out : List (List A)) : Type 0 where
    pub rows : length out ≡ n
    pub wide : (t : ℕ) → t < n → length (get_or out t []) ≡ m

  -- an array of arrays is known by its shape and its entries
  pub grid-ext : (d : A) {n m : ℕ} {out out' : List (List A)} → Shape n m out → Shape n m out' → ((t b : ℕ) → t < n → b < m → entry out t b d ≡ entry out' t b d) → out ≡ out'
  grid-ext d {n} {m} {out} {out'} s s' each =
      ext_get_or [] out out' (s.rows ∙ sym s'.rows)
      (λ t h. let ht : t < n = omega (arith, s.rows) in
      ext_get_or d (get_or out t []) (get_or out' t []) (s.wide t ht ∙ sym (s'.wide t ht)) (λ b k. each t b ht (omega (arith, s.wide t ht))))

  -- ---- filled row by row: entry b of row t is f t b

  module _ (d : A) (m : ℕ) (f : ℕ → ℕ → A) where
    -- the rows below t are right
    abbrev pub Rows : List (List A) → ℕ → Type 0
    Rows out t = (i b : ℕ) → i < t → b < m → entry out i b d ≡ f i b

    -- the entries of row t below b are right
    abbrev pub Row : List (List A) → ℕ → ℕ → Type 0
    Row out t b = (j : ℕ) → j < b → entry out t j d ≡ f t j
