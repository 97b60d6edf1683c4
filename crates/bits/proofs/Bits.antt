-- A bit that is written, and the others, which stay. Assumes nothing.
use mathlib.Core.Path.{◌≡◌, refl, sym, ap, subst, ◌∙◌}
use mathlib.Core.Bool.{Bool, true, false, cond}
use Prim.Native.Nat.{ℕ, suc, ◌+◌, ◌-◌, ◌*◌, ◌/◌, ◌%◌, ◌^◌, ◌<◌, ◌≤◌}
use native.Mathlib.Nat.{mod-lt, div-eq_of_lt, pow-suc, one-mul, zero-mul, lt_of_lt_of_le}
use native.Mathlib.Numerals.{add-one}
use native.Mathlib.Omega.{arith}
use lib.Pow.{pow_pos, pow_mono, high, low, shr-shr, shl_exact, field, mod-mod-pow}
use lib.Bits.{bit_or, bit_and}
use borrow.Author.Tests.{eqb-true, eqb-false}
use lib.Dec.{eqb, lit<}
use lib.ListN.{get_or}
use Rattle.lists.specs.Lists.{tab, all_l}
use Rattle.lists.proofs.Elements.{length-tab, get_or-tab, all-at}
use Rattle.lists.proofs.Bools.{Is, yes-is, no-is, is, Order, less, more, order, equal}
use Rattle.bits.specs.Bits.{bit, is_set, with_bit}

pub bit-zero : (k : ℕ) → bit 0 k ≡ 0
bit-zero k = ap (λ (m : ℕ). m % 2) (div-eq_of_lt (pow_pos k))

-- a bit is 1 exactly if it is set
pub bit-flag : (w k : ℕ) → bit w k ≡ cond (is_set k w) 1 0
bit-flag w k = go (is (is_set k w))
  where
    go : Is (is_set k w) → bit w k ≡ cond (is_set k w) 1 0
    go (yes-is q) = rw q (eqb-true (bit w k) 1 q)
    go (no-is q) = let n : bit w k ≡ 1 → ⊥ = eqb-false (bit w k) 1 q in rw q (omega (arith, n))

-- a bit of a remainder by 2 ^ n: below n the number's, and 0 from n on
pub bit-mod-below : (w n k : ℕ) → k < n → bit (w % 2 ^ n) k ≡ bit w k
bit-mod-below w n k h =
    let e : suc (n - suc k) + k ≡ n = omega arith in
    ap (λ (m : ℕ). bit (w % 2 ^ m) k) (sym e) ∙ ap (λ (m : ℕ). m % 2) (field w (suc (n - suc k)) k) ∙ ap (λ (m : ℕ). w / 2 ^ k % 2 ^ m % 2) (sym (add-one (n - suc k))) ∙ mod-mod-pow (w / 2 ^ k) (n - suc k) 1

pub bit-mod-above : (w n k : ℕ) → n ≤ k → bit (w % 2 ^ n) k ≡ 0
bit-mod-above w n k h = ap (λ (m : ℕ). m % 2) (div-eq_of_lt (lt_of_lt_of_le (mod-lt w (pow_pos n)) (pow_mono h)))

module _ (k w : ℕ) (flag : Bool) where
  abbrev one_or_zero : ℕ
  one_or_zero = cond flag 1 0

  abbrev lower-part : ℕ
  lower-part = one_or_zero * 2 ^ k + w % 2 ^ k

  flag-power : (f : Bool) → cond f (2 ^ k) 0 ≡ cond f 1 0 * 2 ^ k
  flag-power true = sym (one-mul (2 ^ k))
  flag-power false = sym (zero-mul (2 ^ k))

  lower-small : (f : Bool) → cond f 1 0 * 2 ^ k + w % 2 ^ k < 2 ^ suc k
  lower-small true = rw (one-mul (2 ^ k), pow-suc 2 k) (let h = mod-lt w (pow_pos k) in omega arith)
  lower-small false = rw (zero-mul (2 ^ k), pow-suc 2 k) (let h = mod-lt w (pow_pos k) in omega arith)

  parts : with_bit k w flag ≡ w / 2 ^ suc k * 2 ^ suc k + lower-part
  parts = let e = flag-power flag in omega arith

  high_part : with_bit k w flag / 2 ^ suc k ≡ w / 2 ^ suc k
  high_part = ap (λ (n : ℕ). n / 2 ^ suc k) parts ∙ high (w / 2 ^ suc k) (suc k) (lower-small flag)

  low_part : with_bit k w flag % 2 ^ suc k ≡ lower-part
  low_part = ap (λ (n : ℕ). n % 2 ^ suc k) parts ∙ low (w / 2 ^ suc k) (suc k) (lower-small flag)

  flag-mod : (f : Bool) → cond {A = ℕ} f 1 0 % 2 ≡ cond f 1 0
  flag-mod true = refl
  flag-mod false = refl

  -- bit k is the flag
  pub bit-own : bit (with_bit k w flag) k ≡ cond flag 1 0
  bit-own =
      sym (bit-mod-below (with_bit k w flag) (suc k) k (omega arith))
      ∙ ap (λ (n : ℕ). bit n k) low_part
      ∙ ap (λ (n : ℕ). n % 2) (high one_or_zero k (mod-lt w (pow_pos k)))
      ∙ flag-mod flag

  below-own : (j : ℕ) → j < k → bit (with_bit k w flag) j ≡ bit w j
  below-own j h =
      sym (bit-mod-below (with_bit k w flag) (suc k) j (omega arith))
      ∙ ap (λ (n : ℕ). bit n j) low_part
      ∙ sym (bit-mod-below lower-part k j h)
      ∙ ap (λ (n : ℕ). bit n j) (low one_or_zero k (mod-lt w (pow_pos k)))
      ∙ bit-mod-below w k j h

  above-own : (j : ℕ) → k < j → bit (with_bit k w flag) j ≡ bit w j
  above-own j h =
      let e : suc k + (j - suc k) ≡ j = omega arith in
      let at : (n : ℕ) → n / 2 ^ j ≡ n / 2 ^ suc k / 2 ^ (j - suc k) = λ n. ap (λ (i : ℕ). n / 2 ^ i) (sym e) ∙ sym (shr-shr n (suc k) (j - suc k)) in
      ap (λ (n : ℕ). n % 2) (at (with_bit k w flag) ∙ ap (λ (n : ℕ). n / 2 ^ (j - suc k)) high_part ∙ sym (at w))

  -- and every other bit is as it was
  pub bit-other : (j : ℕ) → (j ≡ k → ⊥) → bit (with_bit k w flag) j ≡ bit w j
  bit-other j n = go (order j k)
    where
      go : Order j k → bit (with_bit k w flag) j ≡ bit w j
      go (less h) = below-own j h
      go (equal e) = absurd (n e)
      go (more h) = above-own j h

  flag-test : (f : Bool) → eqb (cond f 1 0) 1 ≡ f
  flag-test true = refl
  flag-test false = refl

  pub set_own : is_set k (with_bit k w flag) ≡ flag
  set_own = ap (λ (n : ℕ). eqb n 1) bit-own ∙ flag-test flag

  pub set_other : (j : ℕ) → (j ≡ k → ⊥) → is_set j (with_bit k w flag) ≡ is_set j w
  set_other j n = ap (λ (m : ℕ). eqb m 1) (bit-other j n)

-- ---- shift and mask: what `word | (1 << k)` and `word & !(1 << k)` make of a byte, by computing all of them

byte-rule : (test : ℕ → ℕ → Bool) → all_l (λ w. all_l (test w) (tab 0 8 (λ i. i))) (tab 0 256 (λ i. i)) ≡ true → (w k : ℕ) → w < 256 → k < 8 → test w k ≡ true
byte-rule test all w k hw hk =
    let a : all_l (test (get_or (tab 0 256 (λ i. i)) w 0)) (tab 0 8 (λ i. i)) ≡ true =
    all-at (λ w. all_l (test w) (tab 0 8 (λ i. i))) (tab 0 256 (λ i. i)) w 0 all (subst (λ (n : ℕ). w < n) (sym (length-tab {A = ℕ} 0 256 (λ i. i))) hw) in
    let b : test (get_or (tab 0 256 (λ i. i)) w 0) (get_or (tab 0 8 (λ i. i)) k 0) ≡ true =
    all-at (test (get_or (tab 0 256 (λ i. i)) w 0)) (tab 0 8 (λ i. i)) k 0 a (subst (λ (n : ℕ). k < n) (sym (length-tab {A = ℕ} 0 8 (λ i. i))) hk) in
    let ew : w ≡ get_or (tab 0 256 (λ i. i)) w 0 = sym (get_or-tab 0 256 (λ i. i) w 0 hw ∙ omega arith) in
    let ek : k ≡ get_or (tab 0 8 (λ i. i)) k 0 = sym (get_or-tab 0 8 (λ i. i) k 0 hk ∙ omega arith) in
    ap (λ (x : ℕ). test x k) ew ∙ ap (test (get_or (tab 0 256 (λ i. i)) w 0)) ek ∙ b

pub or_is : (w k : ℕ) → w < 256 → k < 8 → bit_or w (2 ^ k) ≡ with_bit k w true
or_is w k hw hk = eqb-true _ _ (byte-rule (λ w k. eqb (bit_or w (2 ^ k)) (with_bit k w true)) refl w k hw hk)

pub and_is : (w k : ℕ) → w < 256 → k < 8 → bit_and w (255 - 2 ^ k) ≡ with_bit k w false
and_is w k hw hk = eqb-true _ _ (byte-rule (λ w k. eqb (bit_and w (255 - 2 ^ k)) (with_bit k w false)) refl w k hw hk)

-- `1 << k` at 8 bits, which the machine has as a product cut to 8 bits
pub one_shl : (k : ℕ) → k < 8 → (1 * 2 ^ k) % 256 ≡ 2 ^ k
one_shl k h = shl_exact {a = 1} 1 k 8 (lit< tt) (omega arith) ∙ one-mul (2 ^ k)
