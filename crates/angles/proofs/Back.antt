-- Reading the text that is written of a value in range gives that value back. Assumes nothing.
use Rattle.std.specs.Option.{IsSomeAnd}
use mathlib.Core.Path.{◌≡◌, refl, sym, ap, ◌∙◌}
use mathlib.Core.Bool.{Bool, true}
use mathlib.Core.List.{List, [], ◌∷◌}
use Prim.Native.Nat.{ℕ, suc, ◌+◌, ◌-◌, ◌*◌, ◌/◌, ◌%◌, ◌≤◌, zero-le}
use native.Mathlib.Omega.{arith}
use borrow.Author.Tests.{le-ltb}
use lib.IntN.{ℤ, pos, negsuc, neg_ℤ, nat_abs}
use lib.ListN.{length, take, replicate}
use lib.Seq.{take_at}
use lib.Signed.{lt_z}
use Rattle.lists.specs.Lists.{all_l}
use Rattle.lists.proofs.Bools.{and_intro}
use Rattle.texts.specs.Text.{digit_byte, decimal}
use Rattle.angles.specs.declared.Angle.TheVariants.{Hundredths}
use Rattle.angles.specs.declared.Written.{Written}
use Rattle.angles.specs.Angles.{limit, is_digit, number, parts, text_of, written_of, written_in_range, angle_of}
use Rattle.angles.specs.Meaning.{none, hyphen, Shows}
use Rattle.angles.proofs.Numbers.{digit-is, decimal-digits, decimal-number, decimal-some}
use Rattle.angles.proofs.Laid.{degrees-size, written-some, in_range-some}
use Rattle.angles.proofs.Means.{angle-shown}

-- the two digits after the point
abbrev pub ends : ℕ → List ℕ
ends m = digit_byte (m / 10 % 10) ∷ digit_byte (m % 10) ∷ []

module _ (m : ℕ) where
  sum : 100 * number (decimal (m / 100)) + parts (ends m) ≡ m
  sum = let e = decimal-number (m / 100) in omega arith

  pub ends-digits : all_l is_digit (ends m) ≡ true
  ends-digits =
      let d = digit-is (m % 10) (omega arith) in
      and_intro (is_digit (digit_byte (m / 10 % 10))) (all_l is_digit (digit_byte (m % 10) ∷ [])) (digit-is (m / 10 % 10) (omega arith)) (and_intro (is_digit (digit_byte (m % 10))) true d refl)

-- a written text shows the value
pub written-shows : (v : ℤ) → nat_abs v ≤ limit → Shows (text_of (lt_z v (pos 0)) (nat_abs v)) v
unfolding text_of
written-shows (pos m) h =
    record {
      sign = none;
      whole = decimal (m / 100);
      fraction = ends m;
      is = ap (λ (b : Bool). text_of b m) (le-ltb m 0 zero-le);
      digits = (decimal-digits (m / 100), ends-digits m);
      few = (decimal-some (m / 100), degrees-size m h);
      fewer = (omega arith, omega arith);
      near = let e = sum m in omega arith;
      value = ap pos (sym (sum m));
    }
written-shows (negsuc n) h =
    record {
      sign = hyphen;
      whole = decimal (suc n / 100);
      fraction = ends (suc n);
      is = refl;
      digits = (decimal-digits (suc n / 100), ends-digits (suc n));
      few = (decimal-some (suc n / 100), degrees-size (suc n) h);
      fewer = (omega arith, omega arith);
      near = let e = sum (suc n) in omega arith;
      value = ap (λ (k : ℕ). neg_ℤ (pos k)) (sym (sum (suc n)));
    }

-- the text is what the length says
pub written-text : (v : ℤ) → nat_abs v ≤ limit → take (written_of v).length (written_of v).bytes ≡ text_of (lt_z v (pos 0)) (nat_abs v)
written-text v h =
    let t = text_of (lt_z v (pos 0)) (nat_abs v) in
    ap (λ (w : Written). take w.length w.bytes) (written-some v h) ∙ take_at t (replicate (7 - length t) 0) (length t) refl

pub write_read : (v : ℤ) → nat_abs v ≤ limit → angle_of (take (written_of v).length (written_of v).bytes) ≡ Hundredths v
write_read v h = ap angle_of (written-text v h) ∙ angle-shown (text_of (lt_z v (pos 0)) (nat_abs v)) v (written-shows v h)

-- as an option
pub in_range-text : (v : ℤ) → nat_abs v ≤ limit → IsSomeAnd (written_in_range v) (λ w. take w.length w.bytes ≡ text_of (lt_z v (pos 0)) (nat_abs v))
in_range-text v h = rw (in_range-some v h) (written-text v h)

pub in_range-read : (v : ℤ) → nat_abs v ≤ limit → IsSomeAnd (written_in_range v) (λ w. angle_of (take w.length w.bytes) ≡ Hundredths v)
in_range-read v h = rw (in_range-some v h) (write_read v h)
