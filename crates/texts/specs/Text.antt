-- Texts as lists of bytes, and the writing of a text into a lent buffer from a place on. Definitions only.
use Rattle.std.specs.Prelude.{◌≡◌, true, false, List, ◌++◌, ℕ, zero, suc, ◌+◌, ◌/◌, ◌%◌, ◌<◌, ◌^◌, ltb, length}
use mathlib.Core.List as list
use Prim.Native.Char.{code}
use Prim.Native.String.{String, [], ◌∷◌}
use Rattle.std.proofs.lemmas.List.Edits.{sets}

-- the bytes of a text written out, of ASCII characters
abbrev pub bytes : String → List ℕ
bytes [] = list.[]
bytes (c ∷ s) = list.◌∷◌ (code c) (bytes s)

-- a list of one byte
abbrev pub one : ℕ → List ℕ
one b = list.◌∷◌ b list.[]

-- the byte of a digit
abbrev pub digit_byte : ℕ → ℕ
digit_byte d = 48 + d

-- the decimal digits of a number, in at most k places
abbrev pub digits : ℕ → ℕ → List ℕ
digits zero n = list.[]
digits (suc k) n = elim (ltb n 10) [ true ↦ one (48 + n) | false ↦ digits k (n / 10) ++ one (48 + n % 10) ]

-- a number in decimal, without leading zeros; it has fewer digits than n + 2
unfoldable pub decimal : ℕ → List ℕ
decimal n = digits (suc n) n

-- texts in a row, each with a separator before it
abbrev pub after : List ℕ → List (List ℕ) → List ℕ
after sep list.[] = list.[]
after sep (list.◌∷◌ t ts) = sep ++ (t ++ after sep ts)

-- texts in a row, with a separator between two
abbrev pub joined : List ℕ → List (List ℕ) → List ℕ
joined sep list.[] = list.[]
joined sep (list.◌∷◌ t ts) = t ++ after sep ts

-- ---- the contract of a function that writes: a text is written from place `at` on, and what passes the buffer's end is not; `next` is the place after it

pub record Wrote (found : List ℕ) (at : ℕ) (text out : List ℕ) (next : ℕ) : Type 0 where
  pub buffer : out ≡ sets found at text
  pub place : next ≡ at + length text

-- the place after it is a number of 64 bits
abbrev pub Counts : ℕ → List ℕ → Type 0
Counts at text = at + length text < 2 ^ 64
