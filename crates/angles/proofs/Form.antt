-- What is written has the form that specs/Meaning.antt says, in range; out of range there is no text. Assumes nothing.
use Rattle.std.specs.Prelude.{None}
use Rattle.std.specs.Option.{IsSomeAnd}
use mathlib.Core.Path.{◌≡◌, refl, sym, ap, ◌∙◌}
use mathlib.Core.Bool.{Bool, true, false, not}
use mathlib.Core.List.{List, [], ◌∷◌, ◌++◌, append_assoc}
use mathlib.Core.Logic.{◌⊎◌, inl, inr}
use Prim.Native.Nat.{ℕ, zero, suc, ◌+◌, ◌-◌, ◌/◌, ◌≤◌, ◌<◌}
use native.Mathlib.Omega.{arith}
use borrow.Author.Tests.{ne_eqb}
use lib.IntN.{ℤ, pos, nat_abs}
use lib.ListN.{length, get_or, replicate, length-append, length-replicate, get_or-append}
use lib.Seq.{drop_at, get_or_at}
use lib.Signed.{lt_z}
use Rattle.lists.specs.Lists.{all_l}
use Rattle.lists.proofs.Bools.{and_both, and_intro, lt-or-le}
use Rattle.texts.specs.Text.{digit_byte, decimal}
use Rattle.texts.proofs.Decimals.{decimal-one}
use Rattle.angles.specs.Angles.{plus_byte, point_byte, limit, is_digit, is_hyphen, body, hyphen, text_of, padded, written_of, written_in_range}
use Rattle.lists.proofs.Elements.{all_join}
use Rattle.angles.proofs.Numbers.{digit-from, digit-no-sign, digit-no-hyphen, first-digit, decimal-digits, decimal-some, decimal-first}
use Rattle.angles.proofs.Laid.{text-length, text-size, written_none, written-some, in_range_none, in_range-some}
use Rattle.angles.specs.Meaning.{none, no_plus, Form}
use Rattle.angles.proofs.Parts.{body_is}
use Rattle.angles.proofs.Back.{ends, ends-digits}

-- ---- no plus

digits-none : (l : List ℕ) → all_l is_digit l ≡ true → all_l no_plus l ≡ true
digits-none [] h = refl
digits-none (x ∷ l) h =
    let q = and_both (is_digit x) (all_l is_digit l) h in
    let d = (digit-from x q.0).0 in
    and_intro (no_plus x) (all_l no_plus l) (ap not (ne_eqb x plus_byte (λ e. omega arith))) (digits-none l q.1)

zeros-none : (n : ℕ) → all_l no_plus (replicate n 0) ≡ true
zeros-none zero = refl
zeros-none (suc n) = zeros-none n

text-none : (below : Bool) (m : ℕ) → all_l no_plus (text_of below m) ≡ true
unfolding text_of
text-none below m =
    let t = digits-none (ends m) (ends-digits m) in
    let d = digits-none (decimal (m / 100)) (decimal-digits (m / 100)) in
    all_join no_plus (hyphen below) (decimal (m / 100) ++ (point_byte ∷ ends m)) (sign below) (all_join no_plus (decimal (m / 100)) (point_byte ∷ ends m) d t)
  where
    sign : (below : Bool) → all_l no_plus (hyphen below) ≡ true
    sign true = refl
    sign false = refl

-- ---- what follows the sign

module _ (m : ℕ) (more : List ℕ) where
  abbrev after : List ℕ
  after = decimal (m / 100) ++ (point_byte ∷ more)

  after-digit : is_digit (get_or after 0 0) ≡ true
  after-digit = first-digit (decimal (m / 100)) (point_byte ∷ more) (decimal-some (m / 100)) (decimal-digits (m / 100))

  -- a first digit 0 is the only one before the point
  after-short : get_or after 0 0 ≡ digit_byte 0 → get_or after 1 0 ≡ point_byte
  after-short e = go (lt-or-le 0 (m / 100))
    where
      go : (0 < m / 100) ⊎ (m / 100 ≤ 0) → get_or after 1 0 ≡ point_byte
      go (inl p) =
          let f = decimal-first (m / 100) p in
          let q = get_or-append (decimal (m / 100)) (point_byte ∷ more) 0 0 (decimal-some (m / 100)) in
          absurd (omega arith)
      go (inr p) =
          let z : m / 100 ≡ 0 = omega arith in
          ap (λ (l : List ℕ). get_or (l ++ (point_byte ∷ more)) 1 0) (ap decimal z ∙ decimal-one 0 (omega arith))

module _ (m : ℕ) (z : List ℕ) where
  laid : (decimal (m / 100) ++ (point_byte ∷ ends m)) ++ z ≡ after m (ends m ++ z)
  laid = append_assoc (decimal (m / 100)) (point_byte ∷ ends m) z

  text-below : (below : Bool) → is_hyphen (get_or (text_of below m ++ z) 0 0) ≡ below
  unfolding text_of
  text-below true = refl
  text-below false = ap (λ (l : List ℕ). is_hyphen (get_or l 0 0)) laid ∙ digit-no-hyphen (get_or (after m (ends m ++ z)) 0 0) (after-digit m (ends m ++ z))

  text-body : (below : Bool) → body (text_of below m ++ z) ≡ after m (ends m ++ z)
  unfolding text_of
  text-body true = laid
  text-body false = ap body laid ∙ body_is (after m (ends m ++ z)) (digit-no-sign (get_or (after m (ends m ++ z)) 0 0) (after-digit m (ends m ++ z))) none

  text-short : (below : Bool) → get_or (body (text_of below m ++ z)) 0 0 ≡ digit_byte 0 → get_or (body (text_of below m ++ z)) 1 0 ≡ point_byte
  text-short below e =
      ap (λ (l : List ℕ). get_or l 1 0) (text-body below) ∙ after-short m (ends m ++ z) (sym (ap (λ (l : List ℕ). get_or l 0 0) (text-body below)) ∙ e)

-- two digits follow the point
text-point : (below : Bool) (m : ℕ) (z : List ℕ) → get_or (text_of below m ++ z) (length (text_of below m) - 3) 0 ≡ point_byte
unfolding text_of
text-point below m z =
    let front = hyphen below ++ decimal (m / 100) in
    let n : length (text_of below m) ≡ length (hyphen below) + (length (decimal (m / 100)) + 3) = text-length below m in
    let l : length front ≡ length (hyphen below) + length (decimal (m / 100)) = length-append (hyphen below) (decimal (m / 100)) in
    let k : length front ≡ length (text_of below m) - 3 = omega arith in
    let e : text_of below m ++ z ≡ front ++ (point_byte ∷ (ends m ++ z)) =
    append_assoc (hyphen below) (decimal (m / 100) ++ (point_byte ∷ ends m)) z
    ∙ ap (λ (l : List ℕ). hyphen below ++ l) (laid m z)
    ∙ sym (append_assoc (hyphen below) (decimal (m / 100)) (point_byte ∷ (ends m ++ z))) in
    ap (λ (l : List ℕ). get_or l (length (text_of below m) - 3) 0) e ∙ get_or_at front point_byte (ends m ++ z) 0 (length (text_of below m) - 3) k

-- ---- the form

padded-form : (v : ℤ) → nat_abs v ≤ limit → Form v (padded (text_of (lt_z v (pos 0)) (nat_abs v)))
padded-form v h =
    let below = lt_z v (pos 0) in
    let m = nat_abs v in
    let t = text_of below m in
    let z : List ℕ = replicate (7 - length t) 0 in
    let size = text-size below m h in
    let n = text-length below m in
    let d = decimal-some (m / 100) in
    let lz : length z ≡ 7 - length t = length-replicate (7 - length t) 0 in
    record {
      seven = length-append t z ∙ omega arith;
      least = omega arith;
      most = size;
      below = text-below m z below;
      plusless = all_join no_plus t z (text-none below m) (zeros-none (7 - length t));
      short = text-short m z below;
      point = text-point below m z;
      zeros = drop_at t z (length t) refl;
    }

pub written-form : (v : ℤ) → nat_abs v ≤ limit → Form v (written_of v)
written-form v h = rw (written-some v h) (padded-form v h)

-- out of range: seven zeros, and no length
pub unwritten-form : (v : ℤ) → limit < nat_abs v → written_of v ≡ record { bytes = replicate 7 0; length = 0 }
unwritten-form v h = sym (written_none v h)

-- as an option
pub in_range-form : (v : ℤ) → nat_abs v ≤ limit → IsSomeAnd (written_in_range v) (Form v)
in_range-form v h = rw (in_range-some v h) (written-form v h)

pub out_of_range : (v : ℤ) → limit < nat_abs v → written_in_range v ≡ None
out_of_range v h = sym (in_range_none v h)
