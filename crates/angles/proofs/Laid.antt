-- The text of an angle: how long it is at most, and seven bytes that begin with it. Assumes nothing.
use Rattle.std.specs.Prelude.{Option, Some, None, unwrap_or}
use mathlib.Core.Path.{◌≡◌, sym, ap, subst, ◌∙◌}
use mathlib.Core.Bool.{Bool, true, false}
use mathlib.Core.List.{List, [], ◌∷◌, ◌++◌}
use mathlib.Core.Logic.{◌⊎◌, inl, inr}
use Prim.Native.Nat.{ℕ, zero, suc, ◌+◌, ◌-◌, ◌/◌, ◌%◌, ◌≤◌, ◌<◌}
use native.Mathlib.Omega.{arith}
use borrow.Author.Tests.{le-leb, lt-leb}
use lib.IntN.{ℤ, pos, nat_abs}
use lib.ListN.{length, drop, replicate, length-append}
use lib.Signed.{lt_z}
use Rattle.lists.proofs.Bools.{lt-or-le}
use Rattle.texts.specs.Text.{digit_byte, decimal, Wrote}
use Rattle.texts.proofs.Decimals.{decimal-size}
use Rattle.texts.proofs.Writing.{front-place, front-buffer}
use Rattle.angles.specs.declared.Written.{Written}
use Rattle.angles.specs.Angles.{point_byte, limit, hyphen, text_of, padded, written_of, written_in_range}

pub hyphen-size : (below : Bool) → length (hyphen below) ≤ 1
hyphen-size true = omega arith
hyphen-size false = omega arith

pub degrees-size : (m : ℕ) → m ≤ limit → length (decimal (m / 100)) ≤ 3
degrees-size m h = decimal-size 3 (m / 100) (omega arith) (omega arith)

pub text-length : (below : Bool) (m : ℕ) → length (text_of below m) ≡ length (hyphen below) + (length (decimal (m / 100)) + 3)
unfolding text_of
text-length below m =
    let d = decimal (m / 100) in
    let f : List ℕ = point_byte ∷ digit_byte (m / 10 % 10) ∷ digit_byte (m % 10) ∷ [] in
    length-append (hyphen below) (d ++ f) ∙ ap (λ (k : ℕ). length (hyphen below) + k) (length-append d f)

pub text-size : (below : Bool) (m : ℕ) → m ≤ limit → length (text_of below m) ≤ 7
text-size below m h = let e = text-length below m in let s = hyphen-size below in let d = degrees-size m h in omega arith

-- ---- seven bytes

abbrev zeros : ℕ → List ℕ
zeros n = replicate n 0

drop-zeros : (n k : ℕ) → drop k (zeros n) ≡ zeros (n - k)
drop-zeros n zero = let e : n ≡ n - zero = omega arith in ap zeros e
drop-zeros zero (suc k) = let e : zero ≡ zero - suc k = omega arith in ap zeros e
drop-zeros (suc n) (suc k) = let e : n - k ≡ suc n - suc k = omega arith in drop-zeros n k ∙ ap zeros e

module _ (v : ℤ) where
  pub written_none : limit < nat_abs v → padded [] ≡ written_of v
  unfolding written_of
  written_none h = rw (lt-leb (nat_abs v) limit h)

  pub written-some : nat_abs v ≤ limit → written_of v ≡ padded (text_of (lt_z v (pos 0)) (nat_abs v))
  unfolding written_of
  written-some h = rw (le-leb (nat_abs v) limit h)

  pub written-laid : {below : Bool} {m : ℕ} {out : List ℕ} {next : ℕ} → below ≡ lt_z v (pos 0) → m ≡ nat_abs v → m ≤ limit
      → Wrote (replicate 7 0) 0 (text_of below m) out next → ◌≡◌ {A = Written} (record { bytes = out; length = next }) (written_of v)
  written-laid {below} {m} {out} {next} b e h w =
      let t = text_of below m in
      let place : next ≡ length t = front-place t w in
      let laid : out ≡ t ++ replicate (7 - length t) 0 =
      front-buffer t w (text-size below m h) ∙ ap (λ (l : List ℕ). t ++ l) (ap (λ (k : ℕ). drop k (zeros 7)) place ∙ drop-zeros 7 (length t)) in
      ap (λ (o : List ℕ). record { bytes = o; length = next }) laid
      ∙ ap (λ (k : ℕ). record { bytes = t ++ replicate (7 - length t) 0; length = k }) place
      ∙ ap (λ (x : Bool). padded (text_of x m)) b
      ∙ ap (λ (k : ℕ). padded (text_of (lt_z v (pos 0)) k)) e
      ∙ sym (written-some (subst (λ (k : ℕ). k ≤ limit) e h))

  -- as an option

  pub in_range_none : limit < nat_abs v → None ≡ written_in_range v
  unfolding written_in_range
  in_range_none h = rw (lt-leb (nat_abs v) limit h)

  pub in_range-some : nat_abs v ≤ limit → written_in_range v ≡ Some (written_of v)
  unfolding written_in_range
  in_range-some h = rw (le-leb (nat_abs v) limit h)

  pub in_range-laid : {below : Bool} {m : ℕ} {out : List ℕ} {next : ℕ} → below ≡ lt_z v (pos 0) → m ≡ nat_abs v → m ≤ limit
      → Wrote (replicate 7 0) 0 (text_of below m) out next → ◌≡◌ {A = Option Written} (Some (record { bytes = out; length = next })) (written_in_range v)
  in_range-laid b e h w = ap (λ (x : Written). Some x) (written-laid b e h w) ∙ sym (in_range-some (subst (λ (k : ℕ). k ≤ limit) e h))

  -- the two differ by the zeros
  pub written-unwrap_or : written_of v ≡ unwrap_or (written_in_range v) (padded [])
  written-unwrap_or = go (lt-or-le limit (nat_abs v))
    where
      go : (limit < nat_abs v) ⊎ (nat_abs v ≤ limit) → written_of v ≡ unwrap_or (written_in_range v) (padded [])
      go (inl h) = sym (written_none h) ∙ ap (λ (o : Option Written). unwrap_or o (padded [])) (in_range_none h)
      go (inr h) = ap (λ (o : Option Written). unwrap_or o (padded [])) (sym (in_range-some h))
