-- The words of an image, by their places, and written one after another. Assumes nothing.
use mathlib.Core.Path.{◌≡◌, refl, sym, ap, subst, ◌∙◌}
use mathlib.Core.List.{List, [], ◌∷◌, ◌++◌}
use Prim.Native.Nat.{ℕ, zero, suc, ◌+◌, ◌*◌, ◌/◌, ◌%◌, ◌≤◌, ◌<◌}
use native.Mathlib.Numerals.{add-one}
use native.Mathlib.Omega.{arith}
use borrow.Author.Tests.{eq-eqb, ne_eqb, lt-ltb, le-ltb}
use lib.ListN.{length, get_or, take, drop, set, replicate}
use lib.Seq.{take-suc, take_all, take_at, length-take-le}
use Rattle.lists.proofs.Buffers.{Filled, filled-one}
use Rattle.refusals.specs.declared.Refusal.TheVariants.{ImageLength}
use Rattle.graph.specs.New.{refused_by, new_of, words_of, image_of}

pub words-length : (image : List ℕ) → length (words_of image) ≡ length image / 2
words-length [] = refl
words-length (low ∷ []) = refl
words-length (low ∷ (high ∷ image)) = let e = words-length image in omega arith

words-at : (image : List ℕ) (i : ℕ) → i < length image / 2 → get_or (words_of image) i 0 ≡ get_or image (2 * i) 0 + 256 * get_or image (2 * i + 1) 0
words-at [] i h = absurd (omega arith)
words-at (low ∷ []) i h = absurd (omega arith)
words-at (low ∷ (high ∷ image)) zero h = refl
words-at (low ∷ (high ∷ image)) (suc i) h =
    let a : suc (suc (2 * i)) ≡ 2 * suc i = omega arith in
    let b : suc (suc (2 * i + 1)) ≡ 2 * suc i + 1 = omega arith in
    words-at image i (omega arith)
    ∙ (λ k. get_or (low ∷ (high ∷ image)) (a k) 0 + 256 * get_or (low ∷ (high ∷ image)) (b k) 0)

-- the first i words are written
abbrev pub Unpacked : List ℕ → List ℕ → ℕ → List ℕ → Type 0
Unpacked image found i out = (i ≤ length image / 2) × (length out ≡ length found) × Filled found (take i (words_of image)) out

module _ (image found : List ℕ) (room : length image / 2 ≤ length found) where
  pub unpacked-one : (i : ℕ) (out : List ℕ) (x : ℕ) → Unpacked image found i out → i < length image / 2
      → x ≡ get_or image (2 * i) 0 + 256 * get_or image (2 * i + 1) 0 → length (set out i x) ≡ length found → Unpacked image found (i + 1) (set out i x)
  unpacked-one i out x u h e l =
      let n = words-length image in
      let m : length (take i (words_of image)) ≡ i = length-take-le i (words_of image) (omega arith) in
      let more : take i (words_of image) ++ (x ∷ []) ≡ take (i + 1) (words_of image) =
      ap (λ (y : ℕ). take i (words_of image) ++ (y ∷ [])) (e ∙ sym (words-at image i h))
      ∙ sym (take-suc (words_of image) i 0 (omega arith))
      ∙ ap (λ (k : ℕ). take k (words_of image)) (sym (add-one i))
      in
      (omega arith, l, subst (λ (t : List ℕ). Filled found t (set out i x)) more (filled-one i x u.2 m (omega arith)))

  pub unpacked-all : (i : ℕ) (out : List ℕ) → Unpacked image found i out → length image / 2 ≤ i → out ≡ words_of image ++ drop (length image / 2) found
  unpacked-all i out u h =
      let n = words-length image in
      let all : take i (words_of image) ≡ words_of image = take_all i (words_of image) (omega arith) in
      u.2.holds
      ∙ ap (λ (t : List ℕ). t ++ drop (length t) found) all
      ∙ ap (λ (k : ℕ). words_of image ++ drop k found) n

-- ---- the call

module _ (image graph errors : List ℕ) where
  pub image-odd : length image % 2 ≡ 1 → refused_by ImageLength graph errors ≡ image_of image graph errors
  unfolding image_of
  image-odd e = rw (eq-eqb (length image % 2) 1 e)

  pub image-long : (length image % 2 ≡ 1 → ⊥) → 65536 < length image → refused_by ImageLength graph errors ≡ image_of image graph errors
  unfolding image_of
  image-long n h = rw (ne_eqb (length image % 2) 1 n) (rw (lt-ltb 65536 (length image) h))

  pub image-taken : (length image % 2 ≡ 1 → ⊥) → length image ≤ 65536 → (space : List ℕ) → space ≡ words_of image ++ drop (length image / 2) (replicate 32768 0)
      → new_of (take (length image / 2) space) graph errors ≡ image_of image graph errors
  unfolding image_of
  image-taken n h space e =
      rw (ne_eqb (length image % 2) 1 n) (rw (le-ltb 65536 (length image) h)
      (ap (λ (w : List ℕ). new_of w graph errors)
      (ap (take (length image / 2)) e ∙ take_at (words_of image) (drop (length image / 2) (replicate 32768 0)) (length image / 2) (words-length image))))
