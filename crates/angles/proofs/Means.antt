-- `angle_of` answers a number exactly if the text shows that number, and missing exactly if the text is three hyphens; every other text is not an angle.
-- Assumes nothing.
use Rattle.std.specs.Prelude.{Option, Some, None, cond}
use mathlib.Core.Path.{◌≡◌, refl, sym, ap, subst, ◌∙◌}
use mathlib.Core.Bool.{Bool, true, false, false≢true}
use mathlib.Core.List.{List, [], ◌∷◌, ◌++◌}
use mathlib.Core.Logic.{◌⊎◌, inl, inr}
use Prim.Native.Nat.{ℕ, suc, ◌+◌, ◌*◌, ◌≤◌, ◌<◌}
use native.Mathlib.Omega.{arith}
use borrow.Author.Tests.{le-leb, lt-leb}
use lib.Dec.{eqb}
use lib.IntN.{ℤ}
use lib.ListN.{length, get_or, drop}
use lib.Seq.{get_or-append_seam}
use Rattle.lists.specs.Lists.{all_l, eq_list}
use Rattle.lists.proofs.Bools.{Is, is, yes-is, no-is, and-false, lt-or-le}
use Rattle.angles.specs.declared.Angle.{Angle}
use Rattle.angles.specs.declared.Angle.TheVariants.{Hundredths, Missing, NotAnAngle}
use Rattle.angles.specs.Angles.{point_byte, limit, is_digit, is_hyphen, number, body, whole, fraction, shaped, parts, magnitude, signed, hyphens, angle_of}
use Rattle.angles.specs.Meaning.{Sign, none, plus, hyphen, sign_text, is_below, Shows}
use Rattle.angles.proofs.Numbers.{digit-no-sign, digit-no-hyphen, first-digit}
use Rattle.angles.proofs.Parts.{Shaped, shaped-parts, parts-shaped, shaped-is, whole-digits, whole-front, sign_of, body_is, not-missing, missing-is}

-- ---- the three answers

magnitude-is : (b : List ℕ) → magnitude b ≡ 100 * number (whole b) + parts (fraction b)
unfolding magnitude
magnitude-is b = refl

module _ (t : List ℕ) where
  pub is-missing : eq_list eqb t hyphens ≡ true → angle_of t ≡ Missing
  unfolding angle_of
  is-missing e = rw e

  pub is-not-shaped : eq_list eqb t hyphens ≡ false → shaped (body t) ≡ false → angle_of t ≡ NotAnAngle
  unfolding angle_of
  is-not-shaped e s = rw (e, s)

  pub is-far : eq_list eqb t hyphens ≡ false → limit < magnitude (body t) → angle_of t ≡ NotAnAngle
  unfolding angle_of
  is-far e h = rw (e, lt-leb (magnitude (body t)) limit h, and-false (shaped (body t)))

  pub is-angle : eq_list eqb t hyphens ≡ false → shaped (body t) ≡ true → magnitude (body t) ≤ limit
      → angle_of t ≡ Hundredths (signed (is_hyphen (get_or t 0 0)) (magnitude (body t)))
  unfolding angle_of
  is-angle e s h = rw (e, s, le-leb (magnitude (body t)) limit h)

  -- as the call learns of a text without its sign whether it means a number, and which
  module _ {b : List ℕ} {o : Option ℕ} (here : b ≡ body t) (e : eq_list eqb t hyphens ≡ false) (told : o ≡ cond (shaped b) (Some (magnitude b)) None) where
    at_body : o ≡ cond (shaped (body t)) (Some (magnitude (body t))) None
    at_body = rw (← here) told

    module _ {n : ℕ} (some : o ≡ Some n) where
      parts-told : (shaped (body t) ≡ true) × (n ≡ magnitude (body t))
      parts-told = go (is (shaped (body t)))
        where
          go : Is (shaped (body t)) → (shaped (body t) ≡ true) × (n ≡ magnitude (body t))
          go (yes-is q) = let a = at_body in let f : cond (shaped (body t)) (Some (magnitude (body t))) None ≡ Some (magnitude (body t)) = rw q in (q, cc)
          go (no-is q) = let a = at_body in let f : cond (shaped (body t)) (Some (magnitude (body t))) None ≡ None = rw q in let z : ◌≡◌ {A = ℕ} 0 1 = cc in absurd (omega arith)

      pub read-angle : n ≤ limit → angle_of t ≡ Hundredths (signed (is_hyphen (get_or t 0 0)) n)
      read-angle h = let (s, m) = parts-told in rw m (is-angle e s (rw (← m) h))

      pub read-far : limit < n → angle_of t ≡ NotAnAngle
      read-far h = let (s, m) = parts-told in is-far e (rw (← m) h)

    pub read-none : o ≡ None → angle_of t ≡ NotAnAngle
    read-none gone = go (is (shaped (body t)))
      where
        go : Is (shaped (body t)) → angle_of t ≡ NotAnAngle
        go (yes-is q) = let a = at_body in let f : cond (shaped (body t)) (Some (magnitude (body t))) None ≡ Some (magnitude (body t)) = rw q in let z : ◌≡◌ {A = ℕ} 0 1 = cc in absurd (omega arith)
        go (no-is q) = is-not-shaped e q

  -- which of them it is
  pub data Answers : Type 0 where
    missing : t ≡ hyphens → Answers
    angle : eq_list eqb t hyphens ≡ false → shaped (body t) ≡ true → magnitude (body t) ≤ limit → Answers
    other : angle_of t ≡ NotAnAngle → Answers

  pub answers : Answers
  answers = go (is (eq_list eqb t hyphens)) (is (shaped (body t))) (lt-or-le limit (magnitude (body t)))
    where
      go : Is (eq_list eqb t hyphens) → Is (shaped (body t)) → (limit < magnitude (body t)) ⊎ (magnitude (body t) ≤ limit) → Answers
      go (yes-is m) s h = missing (missing-is t m)
      go (no-is m) (no-is s) h = other (is-not-shaped m s)
      go (no-is m) (yes-is s) (inl h) = other (is-far m h)
      go (no-is m) (yes-is s) (inr h) = angle m s h

pub missing-shown : angle_of hyphens ≡ Missing
missing-shown = is-missing hyphens refl

angle-no-missing : {v : ℤ} → Hundredths v ≡ Missing → ⊥
angle-no-missing e = let z : ◌≡◌ {A = ℕ} 0 1 = cc in omega arith

angle-no-other : {v : ℤ} → Hundredths v ≡ NotAnAngle → ⊥
angle-no-other e = let z : ◌≡◌ {A = ℕ} 0 1 = cc in omega arith

missing-no-other : ◌≡◌ {A = Angle} Missing NotAnAngle → ⊥
missing-no-other e = let z : ◌≡◌ {A = ℕ} 0 1 = cc in omega arith

-- ---- what a text that is an angle shows

pub angle-means : (t : List ℕ) (v : ℤ) → angle_of t ≡ Hundredths v → Shows t v
angle-means t v e = go (answers t)
  where
    go : Answers t → Shows t v
    go (missing m) = absurd (angle-no-missing (sym e ∙ ap angle_of m ∙ missing-shown))
    go (other n) = absurd (angle-no-other (sym e ∙ n))
    go (angle m s h) =
        let p = shaped-parts (body t) s in
        let (sign, is, below) = sign_of t in
        let n : Hundredths (signed (is_hyphen (get_or t 0 0)) (magnitude (body t))) ≡ Hundredths v = sym (is-angle t m s h) ∙ e in
        let same : signed (is_hyphen (get_or t 0 0)) (magnitude (body t)) ≡ v = cc in
        record {
          sign = sign;
          whole = whole (body t);
          fraction = fraction (body t);
          is = is ∙ ap (λ (l : List ℕ). sign_text sign ++ l) (shaped-is (body t) p);
          digits = (whole-digits (body t), p.digits);
          few = (p.low, p.high);
          fewer = (p.some, p.few);
          near = rw (← magnitude-is (body t)) h;
          value = sym same ∙ ap (λ (b : Bool). signed b (magnitude (body t))) below ∙ ap (signed (is_below sign)) (magnitude-is (body t));
        }

-- ---- what shows an angle is one

module _ (t : List ℕ) (v : ℤ) (s : Shows t v) where
  abbrev rest : List ℕ
  rest = s.whole ++ (point_byte ∷ s.fraction)

  first : is_digit (get_or rest 0 0) ≡ true
  first = first-digit s.whole (point_byte ∷ s.fraction) s.few.0 s.digits.0

  body-shown : body t ≡ rest
  body-shown = ap body s.is ∙ body_is rest (digit-no-sign (get_or rest 0 0) first) s.sign

  whole-shown : whole (body t) ≡ s.whole
  whole-shown = ap whole body-shown ∙ whole-front s.whole s.fraction s.digits.0

  fraction-shown : fraction (body t) ≡ s.fraction
  fraction-shown =
      ap fraction body-shown
      ∙ ap (λ (w : List ℕ). drop (suc (length w)) rest) (whole-front s.whole s.fraction s.digits.0)
      ∙ after s.whole
    where
      after : (w : List ℕ) → drop (suc (length w)) (w ++ (point_byte ∷ s.fraction)) ≡ s.fraction
      after [] = refl
      after (x ∷ w) = after w

  shown-parts : Shaped (body t)
  shown-parts =
      record {
        low = subst (λ (w : List ℕ). 1 ≤ length w) (sym whole-shown) s.few.0;
        high = subst (λ (w : List ℕ). length w ≤ 3) (sym whole-shown) s.few.1;
        point =
            ap (λ (w : List ℕ). get_or (body t) (length w) 0) whole-shown
            ∙ ap (λ (b : List ℕ). get_or b (length s.whole) 0) body-shown
            ∙ get_or-append_seam s.whole point_byte s.fraction 0;
        some = subst (λ (f : List ℕ). 1 ≤ length f) (sym fraction-shown) s.fewer.0;
        few = subst (λ (f : List ℕ). length f ≤ 2) (sym fraction-shown) s.fewer.1;
        digits = ap (all_l is_digit) fraction-shown ∙ s.digits.1;
      }

  magnitude-shown : magnitude (body t) ≡ 100 * number s.whole + parts s.fraction
  magnitude-shown =
      magnitude-is (body t)
      ∙ ap (λ (w : List ℕ). 100 * number w + parts (fraction (body t))) whole-shown
      ∙ ap (λ (f : List ℕ). 100 * number s.whole + parts f) fraction-shown

  below-shown : is_hyphen (get_or t 0 0) ≡ is_below s.sign
  below-shown = ap (λ (l : List ℕ). is_hyphen (get_or l 0 0)) s.is ∙ go s.sign
    where
      go : (g : Sign) → is_hyphen (get_or (sign_text g ++ rest) 0 0) ≡ is_below g
      go none = digit-no-hyphen (get_or rest 0 0) first
      go plus = refl
      go hyphen = refl

  shown-is-not-missing : t ≡ hyphens → ⊥
  shown-is-not-missing e =
      false≢true (sym (ap (λ (l : List ℕ). is_digit (get_or (body l) 0 0)) e) ∙ ap (λ (b : List ℕ). is_digit (get_or b 0 0)) body-shown ∙ first)

  pub angle-shown : angle_of t ≡ Hundredths v
  angle-shown =
      is-angle t (sym (not-missing t shown-is-not-missing)) (parts-shaped (body t) shown-parts)
      (subst (λ (m : ℕ). m ≤ limit) (sym magnitude-shown) s.near)
      ∙ ap Hundredths (ap (λ (b : Bool). signed b (magnitude (body t))) below-shown ∙ ap (signed (is_below s.sign)) magnitude-shown ∙ sym s.value)

-- ---- missing, and all else

pub missing-means : (t : List ℕ) → angle_of t ≡ Missing → t ≡ hyphens
missing-means t e = go (answers t)
  where
    go : Answers t → t ≡ hyphens
    go (missing m) = m
    go (other n) = absurd (missing-no-other (sym e ∙ n))
    go (angle m s h) = absurd (angle-no-missing (sym (is-angle t m s h) ∙ e))

pub other-shown : (t : List ℕ) → (t ≡ hyphens → ⊥) → ((v : ℤ) → Shows t v → ⊥) → angle_of t ≡ NotAnAngle
other-shown t n m = go (answers t)
  where
    go : Answers t → angle_of t ≡ NotAnAngle
    go (missing e) = absurd (n e)
    go (other e) = e
    go (angle q s h) = let v = signed (is_hyphen (get_or t 0 0)) (magnitude (body t)) in absurd (m v (angle-means t v (is-angle t q s h)))

pub other-means : (t : List ℕ) → angle_of t ≡ NotAnAngle → (t ≡ hyphens → ⊥) × ((v : ℤ) → Shows t v → ⊥)
other-means t e = (λ m. missing-no-other (sym missing-shown ∙ sym (ap angle_of m) ∙ e), λ v s. angle-no-other (sym (angle-shown t v s) ∙ e))
