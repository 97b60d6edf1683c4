-- Digits and the number that they are: one digit more, how great it is at most, and the digits of a number in decimal. Assumes nothing.
use mathlib.Core.Path.{◌≡◌, refl, sym, ap, ◌∙◌}
use mathlib.Core.Bool.{true, false}
use mathlib.Core.List.{List, [], ◌∷◌, ◌++◌}
use Prim.Native.Nat.{ℕ, zero, suc, ◌+◌, ◌-◌, ◌*◌, ◌/◌, ◌%◌, ◌^◌, ◌≤◌, ◌<◌}
use native.Mathlib.Nat.{not-suc-le-zero, pow-suc, mul_assoc, mul-le-mul_right}
use native.Mathlib.Omega.{arith}
use borrow.Author.Tests.{ltb-true, ltb-false, leb-true, le-leb, ne_eqb}
use lib.Dec.{ltb, leb}
use lib.ListN.{length, get_or, length-append, get_or-append}
use Rattle.lists.specs.Lists.{all_l}
use Rattle.lists.proofs.Bools.{Is, is, yes-is, no-is, and_both, and_intro}
use Rattle.lists.proofs.Elements.{all-at, all_join}
use Rattle.texts.specs.Text.{digit_byte, one, digits, decimal}
use Rattle.angles.specs.Angles.{plus_byte, hyphen_byte, is_digit, is_sign, is_hyphen, number}

pub digit-from : (b : ℕ) → is_digit b ≡ true → (digit_byte 0 ≤ b) × (b ≤ digit_byte 9)
digit-from b e = let (l, h) = and_both (leb (digit_byte 0) b) (leb b (digit_byte 9)) e in (leb-true (digit_byte 0) b l, leb-true b (digit_byte 9) h)

pub digit-is : (d : ℕ) → d < 10 → is_digit (digit_byte d) ≡ true
digit-is d h = and_intro (leb (digit_byte 0) (digit_byte d)) (leb (digit_byte d) (digit_byte 9)) (le-leb (digit_byte 0) (digit_byte d) (omega arith)) (le-leb (digit_byte d) (digit_byte 9) (omega arith))

-- a digit is no sign
pub digit-no-sign : (b : ℕ) → is_digit b ≡ true → is_sign b ≡ false
digit-no-sign b e = let d = (digit-from b e).0 in rw (ne_eqb b plus_byte (λ q. omega arith), ne_eqb b hyphen_byte (λ q. omega arith))

pub digit-no-hyphen : (b : ℕ) → is_digit b ≡ true → is_hyphen b ≡ false
digit-no-hyphen b e = let d = (digit-from b e).0 in ne_eqb b hyphen_byte (λ q. omega arith)

-- what begins with digits begins with one
pub first-digit : (l r : List ℕ) → 0 < length l → all_l is_digit l ≡ true → is_digit (get_or (l ++ r) 0 0) ≡ true
first-digit l r h d = ap is_digit (get_or-append l r 0 0 h) ∙ all-at is_digit l 0 0 d h

-- ---- the number of digits

pub number_more : (l : List ℕ) (d : ℕ) → number (l ++ one d) ≡ number l * 10 + (d - digit_byte 0)
number_more [] d = omega arith
number_more (x ∷ l) d =
    let n : length (l ++ one d) ≡ suc (length l) = length-append l (one d) ∙ omega arith in
    let p : (x - digit_byte 0) * 10 ^ length (l ++ one d) ≡ (x - digit_byte 0) * 10 ^ length l * 10 =
    ap (λ (k : ℕ). (x - digit_byte 0) * 10 ^ k) n ∙ ap (λ (k : ℕ). (x - digit_byte 0) * k) (pow-suc 10 (length l)) ∙ sym (mul_assoc (x - digit_byte 0) (10 ^ length l) 10) in
    sum ((x - digit_byte 0) * 10 ^ length l) (number l) (d - digit_byte 0) p (number_more l d)
  where
    sum : (a n e : ℕ) {a' n' : ℕ} → a' ≡ a * 10 → n' ≡ n * 10 + e → a' + n' ≡ (a + n) * 10 + e
    sum a n e p q = omega arith

pub number-less : (l : List ℕ) → all_l is_digit l ≡ true → number l < 10 ^ length l
number-less [] h = omega arith
number-less (x ∷ l) h =
    let (d, r) = and_both (is_digit x) (all_l is_digit l) h in
    let high = (digit-from x d).1 in
    let m : (x - digit_byte 0) * 10 ^ length l ≤ 9 * 10 ^ length l = mul-le-mul_right (10 ^ length l) (nine x high) in
    sum m (number-less l r) (pow-suc 10 (length l))
  where
    sum : {a n p q : ℕ} → a ≤ 9 * p → n < p → q ≡ p * 10 → a + n < q
    sum m i e = omega arith

    nine : (x : ℕ) → x ≤ digit_byte 9 → x - digit_byte 0 ≤ 9
    nine x h = omega arith

-- of at most three digits
pub number-few : (l : List ℕ) → length l ≤ 3 → all_l is_digit l ≡ true → number l < 1000
number-few [] h d = omega arith
number-few (a ∷ []) h d = let n = number-less (a ∷ []) d in omega arith
number-few (a ∷ b ∷ []) h d = let n = number-less (a ∷ b ∷ []) d in omega arith
number-few (a ∷ b ∷ c ∷ []) h d = let n = number-less (a ∷ b ∷ c ∷ []) d in omega arith
number-few (a ∷ b ∷ c ∷ e ∷ l) h d = absurd (omega arith)

-- ---- the digits of a number

digits-all : (k n : ℕ) → n < k → all_l is_digit (digits k n) ≡ true
digits-all zero n h = absurd (not-suc-le-zero h)
digits-all (suc k) n h = go (is (ltb n 10)) (digits-all k (n / 10))
  where
    go : Is (ltb n 10) → (n / 10 < k → all_l is_digit (digits k (n / 10)) ≡ true) → all_l is_digit (digits (suc k) n) ≡ true
    go (yes-is q) f = rw (q, digits) (and_intro (is_digit (digit_byte n)) true (digit-is n (ltb-true n 10 q)) refl)
    go (no-is q) f =
        let g = ltb-false n 10 q in
        rw (q, digits) (all_join is_digit (digits k (n / 10)) (one (digit_byte (n % 10))) (f (omega arith)) (and_intro (is_digit (digit_byte (n % 10))) true (digit-is (n % 10) (omega arith)) refl))

digits_number : (k n : ℕ) → n < k → number (digits k n) ≡ n
digits_number zero n h = absurd (not-suc-le-zero h)
digits_number (suc k) n h = go (is (ltb n 10)) (digits_number k (n / 10))
  where
    go : Is (ltb n 10) → (n / 10 < k → number (digits k (n / 10)) ≡ n / 10) → number (digits (suc k) n) ≡ n
    go (yes-is q) f = rw (q, digits) (omega arith)
    go (no-is q) f =
        let g = ltb-false n 10 q in
        let e : number (digits k (n / 10)) ≡ n / 10 = f (omega arith) in
        let m : number (digits k (n / 10) ++ one (digit_byte (n % 10))) ≡ number (digits k (n / 10)) * 10 + (digit_byte (n % 10) - digit_byte 0) = number_more (digits k (n / 10)) (digit_byte (n % 10)) in
        rw (q, digits) (omega arith)

digits-some : (k n : ℕ) → n < k → 0 < length (digits k n)
digits-some zero n h = absurd (not-suc-le-zero h)
digits-some (suc k) n h = go (is (ltb n 10))
  where
    go : Is (ltb n 10) → 0 < length (digits (suc k) n)
    go (yes-is q) = rw (q, digits) (omega arith)
    go (no-is q) = rw (q, digits) (let l = length-append (digits k (n / 10)) (one (digit_byte (n % 10))) in omega arith)

-- the first is no 0, but of the number 0
digits-first : (k n : ℕ) → n < k → 0 < n → digit_byte 0 < get_or (digits k n) 0 0
digits-first zero n h p = absurd (not-suc-le-zero h)
digits-first (suc k) n h p = go (is (ltb n 10)) (digits-first k (n / 10))
  where
    go : Is (ltb n 10) → (n / 10 < k → 0 < n / 10 → digit_byte 0 < get_or (digits k (n / 10)) 0 0) → digit_byte 0 < get_or (digits (suc k) n) 0 0
    go (yes-is q) f = rw (q, digits) (omega arith)
    go (no-is q) f =
        let g = ltb-false n 10 q in
        let i = f (omega arith) (omega arith) in
        let e = get_or-append (digits k (n / 10)) (one (digit_byte (n % 10))) 0 0 (digits-some k (n / 10) (omega arith)) in
        rw (q, digits) (omega arith)

module _ (n : ℕ) where
  pub decimal-digits : all_l is_digit (decimal n) ≡ true
  unfolding decimal
  decimal-digits = digits-all (suc n) n (omega arith)

  pub decimal-number : number (decimal n) ≡ n
  unfolding decimal
  decimal-number = digits_number (suc n) n (omega arith)

  pub decimal-first : 0 < n → digit_byte 0 < get_or (decimal n) 0 0
  unfolding decimal
  decimal-first p = digits-first (suc n) n (omega arith) p

  pub decimal-some : 0 < length (decimal n)
  unfolding decimal
  decimal-some = digits-some (suc n) n (omega arith)
