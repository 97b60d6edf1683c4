-- What a shaped text has fails where there is no number; else its parts are read. Assumes nothing.
use Rattle.std.proofs.Common.{◌≡◌, ℕ, ◌+◌, ◌-◌, ◌*◌, ◌<◌, ◌≤◌, length, List, true, sym, ap, ◌∙◌, arith}
use Rattle.std.specs.Prelude.{cond, Some, None}
use lib.ListN.{get_or, take, drop}
use Rattle.lists.specs.Lists.{all_l}
use Rattle.angles.specs.Angles.{point_byte, is_digit, number, whole, fraction, shaped, magnitude}
use Rattle.angles.proofs.Numbers.{number-few}
use Rattle.angles.proofs.Parts.{Shaped, shaped-length, point-within, whole_part, fraction-part, whole-digits, whole-length, whole-all-digits, magnitude-tenths, magnitude-hundredths, no-magnitude, some-magnitude}
use Rattle.angles.proofs.digits.magnitude.Goals as goal
use Rattle.angles.proofs.digits.magnitude.Goals.{then-point-lt1-via-then-point-lt1, then-point-lt1-via-else-point-lt1+then-point-gt3, then-point-lt1-via-else-point-lt1+else-point-gt3+then-body-point, then-point-lt1-via-else-point-lt1+else-point-gt3+else-body-point+then-body-point-ne46}
use Rattle.angles.proofs.digits.magnitude.Goals.{then-few-lt1-via-then-few-lt1, then-few-lt1-via-else-few-lt1+then-few-gt2, then-few-lt1-via-else-few-lt1+else-few-gt2+then-whole-few}

-- what follows the point, as the code takes it
abbrev rest_of : List ℕ → ℕ → List ℕ
rest_of b k = take (length b - (k + 1)) (drop (k + 1) b)

pub returns-then-body-gt6 : goal.returns-then-body-gt6
returns-then-body-gt6 c = no-magnitude c.args.body.now (λ p. omega (arith, shaped-length c.args.body.now p))

pub returns-then-point-lt1 : goal.returns-then-point-lt1
returns-then-point-lt1 c =
    let b = c.args.body.now in
    let front = (whole-length b c.whole-point.ensures.value).0 in
    no-magnitude b (λ p. elim c.then-point-lt1.branch [
      | then-point-lt1-via-then-point-lt1 w ↦ omega (arith, front)
      | then-point-lt1-via-else-point-lt1+then-point-gt3 w ↦ omega (arith, front)
      | then-point-lt1-via-else-point-lt1+else-point-gt3+then-body-point w ↦ omega (arith, front, point-within b p)
      | then-point-lt1-via-else-point-lt1+else-point-gt3+else-body-point+then-body-point-ne46 w ↦
          w.if-body-point-ne46.true (ap (λ (k : ℕ). get_or b k 0) front ∙ p.point)
    ])

-- as many digits as there are bytes
all : (f l : List ℕ) {n : ℕ} → f ≡ l → n ≡ length (whole f) → length f ≤ n → all_l is_digit l ≡ true
all f l e d h = (whole-all-digits l).0 (rw (← e) (omega arith))

some : (f l : List ℕ) {n : ℕ} → f ≡ l → n ≡ length (whole f) → n < length f → all_l is_digit l ≡ true → ⊥
some f l e d h q = let k = (whole-all-digits l).1 q in let k' : length f ≤ length (whole f) = rw e k in omega arith

pub returns-then-few-lt1 : goal.returns-then-few-lt1
returns-then-few-lt1 c =
    let b = c.args.body.now in
    let front = (whole-length b c.whole-point.ensures.value).0 in
    let rest = fraction-part b front in
    no-magnitude b (λ p. elim c.then-few-lt1.branch [
      | then-few-lt1-via-then-few-lt1 w ↦ let n = ap length rest in omega (arith, n, p.some)
      | then-few-lt1-via-else-few-lt1+then-few-gt2 w ↦ let n = ap length rest in omega (arith, n, p.few)
      | then-few-lt1-via-else-few-lt1+else-few-gt2+then-whole-few w ↦
          some (rest_of b c.whole-point.result) (fraction b) rest (whole-length (rest_of b c.whole-point.result) w.whole.ensures.value).0 w.if-whole-few.true p.digits
    ])

-- what the text has then
module _ (b : List ℕ) {k n degrees parts : ℕ} (counted : (k ≡ length (whole b)) × (k ≤ length b)) (low : 1 ≤ k) (high : k ≤ 3) (point : get_or b k 0 ≡ point_byte)
    (lowest : 1 ≤ length (rest_of b k)) (highest : length (rest_of b k) ≤ 2) (told : (n ≡ length (whole (rest_of b k))) × (n ≤ length (rest_of b k))) (digits : length (rest_of b k) ≤ n)
    (first : degrees ≡ number (take k b)) (second : parts ≡ number (rest_of b k)) where
  rest : rest_of b k ≡ fraction b
  rest = fraction-part b counted.0

  size : length (rest_of b k) ≡ length (fraction b)
  size = ap length rest

  shape : Shaped b
  shape =
      let front = counted.0 in
      let few = size in
      record {
        low = omega arith;
        high = omega arith;
        point = sym (ap (λ (j : ℕ). get_or b j 0) front) ∙ point;
        some = omega arith;
        few = omega arith;
        digits = all (rest_of b k) (fraction b) rest told.0 digits;
      }

  whole-number : degrees ≡ number (whole b)
  whole-number = first ∙ ap number (whole_part b counted.0)

  part-number : parts ≡ number (fraction b)
  part-number = second ∙ ap number rest

  small : (degrees < 1000) × (parts < 1000)
  small =
      let p = shape in
      let w = whole-number in
      let f = part-number in
      let d = number-few (whole b) p.high (whole-digits b) in
      let few : length (fraction b) ≤ 3 = (let h = p.few in omega arith) in
      let e = number-few (fraction b) few p.digits in
      (omega arith, omega arith)

  tenths : length (rest_of b k) ≡ 1 → Some (100 * degrees + 10 * parts) ≡ cond (shaped b) (Some (magnitude b)) None
  tenths one = some-magnitude b shape (rw (whole-number, part-number) (magnitude-tenths b (sym size ∙ one)))

  hundredths : (length (rest_of b k) ≡ 1 → ⊥) → Some (100 * degrees + parts) ≡ cond (shaped b) (Some (magnitude b)) None
  hundredths more =
      let e = size in
      let two : length (fraction b) ≡ 2 = omega (arith, more) in
      some-magnitude b shape (rw (whole-number, part-number) (magnitude-hundredths b two))

pub overflow_add-result-else-few-eq1 : goal.overflow_add-result-else-few-eq1
overflow_add-result-else-few-eq1 c =
    let b = c.args.body.now in
    let k = c.whole-point.result in
    omega (
      arith,
      small b {k = k} {n = c.whole.result} (whole-length b c.whole-point.ensures.value) (omega arith) (omega arith) c.if-body-point-ne46.false (omega arith) (omega arith)
          (whole-length (rest_of b k) c.whole.ensures.value) c.if-whole-few.false c.number-degrees.ensures c.number-parts.ensures,
    )

pub returns-then-few-eq1 : goal.returns-then-few-eq1
returns-then-few-eq1 c =
    let b = c.args.body.now in
    let k = c.whole-point.result in
    tenths b {k = k} {n = c.whole.result} (whole-length b c.whole-point.ensures.value) (omega arith) (omega arith) c.if-body-point-ne46.false (omega arith) (omega arith)
    (whole-length (rest_of b k) c.whole.ensures.value) c.if-whole-few.false c.number-degrees.ensures c.number-parts.ensures c.if-few-eq1.true

pub returns-else-few-eq1 : goal.returns-else-few-eq1
returns-else-few-eq1 c =
    let b = c.args.body.now in
    let k = c.whole-point.result in
    hundredths b {k = k} {n = c.whole.result} (whole-length b c.whole-point.ensures.value) (omega arith) (omega arith) c.if-body-point-ne46.false (omega arith) (omega arith)
    (whole-length (rest_of b k) c.whole.ensures.value) c.if-whole-few.false c.number-degrees.ensures c.number-parts.ensures c.if-few-eq1.false
