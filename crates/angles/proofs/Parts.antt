-- A text taken apart: its sign, and the digits in front of what follows. Assumes nothing.
use mathlib.Core.Path.{◌≡◌, refl, sym, ap, subst, ◌∙◌}
use mathlib.Core.Bool.{Bool, true, false, cond, ◌&&◌}
use mathlib.Core.List.{List, [], ◌∷◌, ◌++◌}
use mathlib.Core.Logic.{◌⊎◌, inl, inr}
use Prim.Native.Nat.{ℕ, suc, ◌+◌, ◌-◌, ◌*◌, ◌≤◌, ◌<◌}
use native.Mathlib.Numerals.{add-one}
use native.Mathlib.Omega.{arith}
use borrow.Author.Tests.{eqb-true, eq-eqb, leb-true, le-leb}
use lib.Dec.{eqb, leb, eqb-suc-suc, eqb-zero-suc}
use Rattle.std.specs.Cmp.Lexicographic.{pointwise}
use Rattle.std.specs.Prelude.{Some, None}
use Rattle.std.specs.Char.{is_ascii_digit}
use Rattle.std.specs.List.{take_while}
use Rattle.std.proofs.lemmas.List.Sums.{take_while-cons}
use lib.ListN.{length, get_or, take, drop, length-append, length-drop, get_or-eq_default}
use lib.Seq.{drop-cons, take_at, take_all}
use Rattle.lists.specs.Lists.{all_l, eq_list}
use Rattle.lists.proofs.Bools.{Is, is, yes-is, no-is, and_both, and_intro, lt-or-le}
use Rattle.lists.proofs.Elements.{eqb-sound, list-sound}
use Rattle.angles.specs.Angles.{plus_byte, hyphen_byte, point_byte, is_digit, number, is_sign, is_hyphen, body, whole, fraction, shaped, magnitude, hyphens}
use Rattle.angles.specs.Meaning.{Sign, none, plus, hyphen, sign_text, is_below}

-- ---- a text from a place on

tail-is : (l : List ℕ) (k : ℕ) → take (length l - k) (drop k l) ≡ drop k l
tail-is l k = let n = length-drop k l in take_all (length l - k) (drop k l) (omega arith)

-- ---- three hyphens

pub missing-is : (t : List ℕ) → eq_list eqb t hyphens ≡ true → t ≡ hyphens
missing-is t e = (list-sound eqb eqb-sound).eq t hyphens e

pub not-missing : (t : List ℕ) → (t ≡ hyphens → ⊥) → false ≡ eq_list eqb t hyphens
not-missing t n = go (is (eq_list eqb t hyphens))
  where
    go : Is (eq_list eqb t hyphens) → false ≡ eq_list eqb t hyphens
    go (yes-is q) = absurd (n (missing-is t q))
    go (no-is q) = sym q

-- as slices of bytes are compared
pub same_text : (a b : List ℕ) → eq_list eqb a b ≡ pointwise eqb a b
same_text [] [] = refl
same_text [] (y ∷ b) = refl
same_text (x ∷ a) [] = refl
same_text (x ∷ a) (y ∷ b) = go (eqb x y) (same_text a b)
  where
    go : (t : Bool) → eq_list eqb a b ≡ pointwise eqb a b → elim t [ true ↦ eq_list eqb a b | false ↦ false ] ≡ (t && pointwise eqb a b)
    go true e = e
    go false e = refl

-- ---- the sign

sign-none : (x : ℕ) (t : List ℕ) → eqb x plus_byte ≡ false → eqb x hyphen_byte ≡ false → body (x ∷ t) ≡ x ∷ t
sign-none x t p q = rw (p, q)

-- a text is its sign and its body
pub sign_of : (t : List ℕ) → (s : Sign) × (t ≡ sign_text s ++ body t) × (is_hyphen (get_or t 0 0) ≡ is_below s)
sign_of [] = (none, refl, refl)
sign_of (x ∷ t) = go (is (eqb x plus_byte)) (is (eqb x hyphen_byte))
  where
    go : Is (eqb x plus_byte) → Is (eqb x hyphen_byte) → (s : Sign) × (x ∷ t ≡ sign_text s ++ body (x ∷ t)) × (is_hyphen x ≡ is_below s)
    go (yes-is p) q =
        let e : plus_byte ≡ x = sym (eqb-true x plus_byte p) in
        subst (λ (x : ℕ). (s : Sign) × (x ∷ t ≡ sign_text s ++ body (x ∷ t)) × (is_hyphen x ≡ is_below s)) e (plus, refl, refl)
    go (no-is p) (yes-is q) =
        let e : hyphen_byte ≡ x = sym (eqb-true x hyphen_byte q) in
        subst (λ (x : ℕ). (s : Sign) × (x ∷ t ≡ sign_text s ++ body (x ∷ t)) × (is_hyphen x ≡ is_below s)) e (hyphen, refl, refl)
    go (no-is p) (no-is q) = (none, sym (sign-none x t p q), q)

-- what does not begin with a sign is the body
module _ (b : List ℕ) (n : is_sign (get_or b 0 0) ≡ false) where
  pub body_is : (s : Sign) → body (sign_text s ++ b) ≡ b
  body_is none = rw n
  body_is plus = refl
  body_is hyphen = refl

-- ---- the digits in front

pub whole-digits : (b : List ℕ) → all_l is_digit (whole b) ≡ true
whole-digits [] = refl
whole-digits (x ∷ b) = go (is (is_digit x)) (whole-digits b)
  where
    go : Is (is_digit x) → all_l is_digit (whole b) ≡ true → all_l is_digit (whole (x ∷ b)) ≡ true
    go (yes-is q) i = rw (q, whole) (and_intro (is_digit x) (all_l is_digit (whole b)) q i)
    go (no-is q) i = rw (q, whole)

pub whole_split : (b : List ℕ) → b ≡ whole b ++ drop (length (whole b)) b
whole_split [] = refl
whole_split (x ∷ b) = go (is (is_digit x)) (whole_split b)
  where
    go : Is (is_digit x) → b ≡ whole b ++ drop (length (whole b)) b → x ∷ b ≡ whole (x ∷ b) ++ drop (length (whole (x ∷ b))) (x ∷ b)
    go (yes-is q) i = rw (q, whole) (ap (◌∷◌ x) i)
    go (no-is q) i = rw (q, whole)

pub whole-yes : (x : ℕ) (b : List ℕ) → is_digit x ≡ true → whole (x ∷ b) ≡ x ∷ whole b
whole-yes x b q = rw (q, whole)

-- digits up to a byte that is none
pub whole-front : (w f : List ℕ) → all_l is_digit w ≡ true → whole (w ++ (point_byte ∷ f)) ≡ w
whole-front [] f h = refl
whole-front (x ∷ w) f h =
    let (d, r) = and_both (is_digit x) (all_l is_digit w) h in
    whole-yes x (w ++ (point_byte ∷ f)) d ∙ ap (◌∷◌ x) (whole-front w f r)

-- all bytes are digits if as many are in front
whole-all : (l : List ℕ) → eqb (length (whole l)) (length l) ≡ all_l is_digit l
whole-all [] = refl
whole-all (x ∷ l) = go (is (is_digit x)) (whole-all l)
  where
    go : Is (is_digit x) → eqb (length (whole l)) (length l) ≡ all_l is_digit l → eqb (length (whole (x ∷ l))) (suc (length l)) ≡ all_l is_digit (x ∷ l)
    go (yes-is q) i = rw (q, whole) (eqb-suc-suc (length (whole l)) (length l) ∙ i)
    go (no-is q) i = rw (q, whole) (eqb-zero-suc (length l))

pub whole-within : (b : List ℕ) → length (whole b) ≤ length b
whole-within b = let e = ap length (whole_split b) ∙ length-append (whole b) (drop (length (whole b)) b) in omega arith

pub whole-all-digits : (l : List ℕ) → (length l ≤ length (whole l) → all_l is_digit l ≡ true) × (all_l is_digit l ≡ true → length l ≤ length (whole l))
whole-all-digits l =
    let e = whole-all l in
    (λ h. sym e ∙ eq-eqb (length (whole l)) (length l) (let k = whole-within l in omega arith), λ d. let q = eqb-true (length (whole l)) (length l) (e ∙ d) in omega arith)

whole_take : (b : List ℕ) → take (length (whole b)) b ≡ whole b
whole_take b = ap (take (length (whole b))) (whole_split b) ∙ take_at (whole b) (drop (length (whole b)) b) (length (whole b)) refl

pub whole_part : (b : List ℕ) {k : ℕ} → k ≡ length (whole b) → take k b ≡ whole b
whole_part b e = ap (λ (j : ℕ). take j b) e ∙ whole_take b

pub fraction-part : (b : List ℕ) {k : ℕ} → k ≡ length (whole b) → take (length b - (k + 1)) (drop (k + 1) b) ≡ fraction b
fraction-part b {k} e = tail-is b (k + 1) ∙ ap (λ (j : ℕ). drop j b) (add-one k ∙ ap suc e)

-- ---- one to three digits, a point, one or two digits

pub record Shaped (b : List ℕ) : Type 0 where
  pub low : 1 ≤ length (whole b)
  pub high : length (whole b) ≤ 3
  pub point : get_or b (length (whole b)) 0 ≡ point_byte
  pub some : 1 ≤ length (fraction b)
  pub few : length (fraction b) ≤ 2
  pub digits : all_l is_digit (fraction b) ≡ true

module _ (b : List ℕ) where
  pub shaped-parts : shaped b ≡ true → Shaped b
  unfolding shaped
  shaped-parts e =
      let w = length (whole b) in
      let f = length (fraction b) in
      let x = and_both (leb 1 w && leb w 3) _ e in
      let xs = and_both (leb 1 w) (leb w 3) x.0 in
      let y = and_both (eqb (get_or b w 0) point_byte) _ x.1 in
      let z = and_both (leb 1 f && leb f 2) (all_l is_digit (fraction b)) y.1 in
      let zs = and_both (leb 1 f) (leb f 2) z.0 in
      record {
        low = leb-true 1 w xs.0;
        high = leb-true w 3 xs.1;
        point = eqb-true (get_or b w 0) point_byte y.0;
        some = leb-true 1 f zs.0;
        few = leb-true f 2 zs.1;
        digits = z.1;
      }

  pub parts-shaped : Shaped b → shaped b ≡ true
  unfolding shaped
  parts-shaped p =
      let w = length (whole b) in
      let f = length (fraction b) in
      and_intro (leb 1 w && leb w 3) _ (and_intro (leb 1 w) (leb w 3) (le-leb 1 w p.low) (le-leb w 3 p.high))
      (and_intro (eqb (get_or b w 0) point_byte) _ (eq-eqb (get_or b w 0) point_byte p.point)
      (and_intro (leb 1 f && leb f 2) (all_l is_digit (fraction b)) (and_intro (leb 1 f) (leb f 2) (le-leb 1 f p.some) (le-leb f 2 p.few)) p.digits))

  pub not-shaped : (Shaped b → ⊥) → false ≡ shaped b
  not-shaped n = go (is (shaped b))
    where
      go : Is (shaped b) → false ≡ shaped b
      go (yes-is q) = absurd (n (shaped-parts q))
      go (no-is q) = sym q

  module _ (p : Shaped b) where
    -- the point is there
    pub point-within : length (whole b) < length b
    point-within = go (lt-or-le (length (whole b)) (length b))
      where
        go : (length (whole b) < length b) ⊎ (length b ≤ length (whole b)) → length (whole b) < length b
        go (inl h) = h
        go (inr h) =
            let e : get_or b (length (whole b)) 0 ≡ 0 = get_or-eq_default b 0 h in
            let q = p.point in
            absurd (omega arith)

    pub shaped-is : b ≡ whole b ++ (point_byte ∷ fraction b)
    shaped-is =
        whole_split b
        ∙ ap (λ (l : List ℕ). whole b ++ l) (drop-cons b (length (whole b)) 0 point-within ∙ ap (λ (x : ℕ). x ∷ fraction b) p.point)

    pub shaped-length : length b ≡ length (whole b) + suc (length (fraction b))
    shaped-length = ap length shaped-is ∙ length-append (whole b) (point_byte ∷ fraction b)

  -- in hundredths: one digit means tenths
  pub magnitude-tenths : length (fraction b) ≡ 1 → 100 * number (whole b) + 10 * number (fraction b) ≡ magnitude b
  unfolding magnitude
  magnitude-tenths e = sym (rw e)

  pub magnitude-hundredths : length (fraction b) ≡ 2 → 100 * number (whole b) + number (fraction b) ≡ magnitude b
  unfolding magnitude
  magnitude-hundredths e = sym (rw e (let i : 1 * number (fraction b) ≡ number (fraction b) = omega arith in ap (λ (k : ℕ). 100 * number (whole b) + k) i))

-- ---- counted

whole_is : (b : List ℕ) → whole b ≡ take_while is_ascii_digit b
whole_is [] = refl
whole_is (x ∷ b) = go (is (is_digit x)) (whole_is b) ∙ sym (take_while-cons is_ascii_digit x b)
  where
    go : Is (is_digit x) → whole b ≡ take_while is_ascii_digit b → whole (x ∷ b) ≡ cond (is_ascii_digit x) (x ∷ take_while is_ascii_digit b) []
    go (yes-is q) e = rw (q, whole, e)
    go (no-is q) e = rw (q, whole)

pub whole-length : (b : List ℕ) {n : ℕ} → n ≡ length (take_while is_ascii_digit b) → (n ≡ length (whole b)) × (n ≤ length b)
whole-length b e =
    let h = whole-within b in
    let f = ap length (whole_is b) in
    (omega arith, omega arith)

-- ---- what the call answers

module _ (b : List ℕ) where
  pub no-magnitude : (Shaped b → ⊥) → None ≡ cond (shaped b) (Some (magnitude b)) None
  no-magnitude n = rw (← not-shaped b n)

  pub some-magnitude : Shaped b → {n : ℕ} → n ≡ magnitude b → Some n ≡ cond (shaped b) (Some (magnitude b)) None
  some-magnitude p e = rw (parts-shaped b p, e)
