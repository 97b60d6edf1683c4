-- A list cut into pieces of one length: how many, how long, and where their elements stand. Assumes nothing.
use mathlib.Core.Path.{◌≡◌, refl, ap, ◌∙◌}
use mathlib.Core.List.{List, []}
use Prim.Native.Nat.{ℕ, zero, suc, ◌+◌, ◌*◌, ◌≤◌, ◌<◌}
use native.Mathlib.Nat.{not-suc-le-zero, le_of_suc-le-suc, mul-suc, mul-zero}
use native.Mathlib.Omega.{arith}
use lib.ListN.{length, get_or, drop, length-drop}
use lib.Seq.{length-take-le, get_or-take, get_or-drop}
use Rattle.lists.specs.Lists.{pieces}

module _ {A : Type 0} (k : ℕ) where
  pub pieces-length : (n : ℕ) (l : List A) → length (pieces k n l) ≡ n
  pieces-length zero l = refl
  pieces-length (suc n) l = ap suc (pieces-length n (drop k l))

  pub pieces-width : (n : ℕ) (l : List A) → k * n ≤ length l → (i : ℕ) → i < n → length (get_or (pieces k n l) i []) ≡ k
  pieces-width zero l h i b = absurd (not-suc-le-zero b)
  pieces-width (suc n) l h zero b = let h' : k * n + k ≤ length l = rw (mul-suc k n) at h in length-take-le k l (omega arith)
  pieces-width (suc n) l h (suc i) b =
      let h' : k * n + k ≤ length l = rw (mul-suc k n) at h in
      pieces-width n (drop k l) (simp length-drop (omega arith)) i (le_of_suc-le-suc b)

pub pieces-at : (k n : ℕ) (l : List ℕ) (i j d : ℕ) → i < n → j < k → get_or (get_or (pieces k n l) i []) j d ≡ get_or l (k * i + j) d
pieces-at k zero l i j d h b = absurd (not-suc-le-zero h)
pieces-at k (suc n) l zero j d h b = get_or-take k l j d b ∙ ap (λ (x : ℕ). get_or l x d) (let e = mul-zero k in omega arith)
pieces-at k (suc n) l (suc i) j d h b =
    pieces-at k n (drop k l) i j d (le_of_suc-le-suc h) b
    ∙ get_or-drop k l (k * i + j) d
    ∙ ap (λ (x : ℕ). get_or l x d) (let e = mul-suc k i in omega arith)

-- the word j of piece i, of the pieces that begin at word a
pub piece-word : (w : List ℕ) (a k n i j d : ℕ) → i < n → j < k → get_or (get_or (pieces k n (drop a w)) i []) j d ≡ get_or w (a + k * i + j) d
piece-word w a k n i j d h b = pieces-at k n (drop a w) i j d h b ∙ get_or-drop a w (k * i + j) d ∙ ap (λ (x : ℕ). get_or w x d) (omega arith)
