-- A number's text is its tenth's, and its last digit. Assumes nothing.
use Rattle.std.proofs.Common.{ℕ, ◌/◌, ◌%◌, ◌≤◌, ◌++◌, sym, ap, subst, ◌∙◌, arith}
use Rattle.texts.specs.Text.{one, digit_byte, decimal, Counts}
use Rattle.texts.proofs.Writing.{wrote_then, wrote_as, counts-first, counts-then}
use Rattle.texts.proofs.Decimals.{decimal-one, decimal-more}
use Rattle.texts.proofs.+number.Goals as goal

pub byte-requires : goal.byte-requires
byte-requires t c = subst (Counts c.args.at) (decimal-one c.args.n (omega arith)) c.requires

pub returns-then-n-lt10 : goal.returns-then-n-lt10
returns-then-n-lt10 t c = wrote_as (ap one c.digit.ensures ∙ sym (decimal-one c.args.n (omega arith))) c.byte.ensures

-- the whole text, where the number has more than one digit
more : (at n : ℕ) → 10 ≤ n → Counts at (decimal n) → Counts at (decimal (n / 10) ++ one (digit_byte (n % 10)))
more at n h counts = subst (Counts at) (decimal-more n h) counts

pub number-next-requires : goal.number-next-requires
number-next-requires t c =
    let n = c.args.n in
    (omega arith, counts-first c.args.at (decimal (n / 10)) (one (digit_byte (n % 10))) (more c.args.at n (omega arith) c.requires))

pub byte-requires-2 : goal.byte-requires-2
byte-requires-2 t c =
    let n = c.args.n in
    counts-then c.args.at (decimal (n / 10)) (one (digit_byte (n % 10))) (more c.args.at n (omega arith) c.requires) c.number-next.ensures

pub returns : goal.returns
returns t c =
    let n = c.args.n in
    wrote_as (ap (λ (x : ℕ). decimal (n / 10) ++ one x) c.digit-2.ensures ∙ sym (decimal-more n (omega arith)))
    (wrote_then c.number-next.ensures c.byte-2.ensures)
