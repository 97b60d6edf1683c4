-- The decimal digits of a number: those of its tenth, and the last one; how many there are. Assumes nothing.
use mathlib.Core.Path.{◌≡◌, ap}
use mathlib.Core.List.{List, ◌++◌}
use mathlib.Core.Logic.{◌⊎◌, inl, inr}
use Prim.Native.Nat.{ℕ, zero, suc, ◌/◌, ◌%◌, ◌≤◌, ◌<◌, ◌^◌}
use native.Mathlib.Nat.{not-suc-le-zero, pow-suc}
use native.Mathlib.Omega.{arith}
use borrow.Author.Tests.{lt-ltb, le-ltb, ltb-false}
use lib.Dec.{ltb}
use lib.ListN.{length, length-append}
use Rattle.lists.proofs.Bools.{Is, is, yes-is, no-is, lt-or-le}
use Rattle.texts.specs.Text.{one, digit_byte, digits, decimal}

-- more places than the number has digits change nothing
digits-enough : (k j n : ℕ) → n < k → n < j → digits k n ≡ digits j n
digits-enough zero j n h l = absurd (not-suc-le-zero h)
digits-enough (suc k) zero n h l = absurd (not-suc-le-zero l)
digits-enough (suc k) (suc j) n h l = go (is (ltb n 10)) (digits-enough k j (n / 10))
  where
    go : Is (ltb n 10) → (n / 10 < k → n / 10 < j → digits k (n / 10) ≡ digits j (n / 10)) → digits (suc k) n ≡ digits (suc j) n
    go (yes-is q) f = rw (q, digits)
    go (no-is q) f =
        let e : digits k (n / 10) ≡ digits j (n / 10) = f (let g = ltb-false n 10 q in omega arith) (let g = ltb-false n 10 q in omega arith) in
        rw (q, digits) (ap (λ (t : List ℕ). t ++ one (digit_byte (n % 10))) e)

pub decimal-one : (n : ℕ) → n < 10 → decimal n ≡ one (digit_byte n)
unfolding decimal
decimal-one n h = rw (lt-ltb n 10 h, digits)

pub decimal-more : (n : ℕ) → 10 ≤ n → decimal n ≡ decimal (n / 10) ++ one (digit_byte (n % 10))
unfolding decimal
decimal-more n h = rw (le-ltb n 10 h, digits) (ap (λ (t : List ℕ). t ++ one (digit_byte (n % 10))) (digits-enough n (suc (n / 10)) (n / 10) (omega arith) (omega arith)))

-- ---- how many digits: at most k, below ten to the k-th

pub decimal-size : (k n : ℕ) → 1 ≤ k → n < 10 ^ k → length (decimal n) ≤ k
decimal-size zero n some h = absurd (not-suc-le-zero some)
decimal-size (suc zero) n some h = rw (decimal-one n h) (omega arith)
decimal-size (suc (suc k)) n some h = go (lt-or-le n 10) (decimal-size (suc k) (n / 10) (omega arith))
  where
    go : (n < 10) ⊎ (10 ≤ n) → (n / 10 < 10 ^ suc k → length (decimal (n / 10)) ≤ suc k) → length (decimal n) ≤ suc (suc k)
    go (inl l) short = rw (decimal-one n l) (omega arith)
    go (inr l) short =
        let e = pow-suc 10 (suc k) in
        let i = short (omega arith) in
        rw (decimal-more n l, length-append (decimal (n / 10)) (one (digit_byte (n % 10)))) (omega arith)

-- a number of 64 bits
pub decimal-64 : (n : ℕ) → n < 2 ^ 64 → length (decimal n) ≤ 20
decimal-64 n h = decimal-size 20 n (omega arith) (omega arith)
