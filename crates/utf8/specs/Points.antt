-- What the code answers of a lead byte: the range of a second byte. Definitions only.
use Rattle.std.specs.Prelude.{cond, ℕ, eqb}

abbrev pub low_of : ℕ → ℕ
low_of b = cond (eqb b 0xE0) 0xA0 (cond (eqb b 0xF0) 0x90 0x80)

abbrev pub high_of : ℕ → ℕ
high_of b = cond (eqb b 0xED) 0x9F (cond (eqb b 0xF4) 0x8F 0xBF)
