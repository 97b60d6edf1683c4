-- Lent bytes: a class that a caller passes, and bytes that are handed out. Definitions only.
use Rattle.std.specs.Prelude.{Bool, not, cond, List, [], ◌∷◌, ◌++◌, ℕ, eqb, ltb, length, get_or, drop}
use Rattle.lists.specs.Lists.{tab}
use Rattle.lists.specs.Report.{Report, reporting, refusing}
use Rattle.classes.specs.Classes.{Class}

-- ---- a class: byte b is in it if entry b is there and not 0. So all bytes, however many, are a class.

abbrev pub is_flag : List ℕ → ℕ → Bool
is_flag bytes b = not (eqb (get_or bytes b 0) 0)

unfoldable pub flags_of : List ℕ → Class
flags_of bytes = tab 0 256 (is_flag bytes)

-- ---- bytes handed out in a block: they stand at its front, and the rest is unchanged; a block that is too short gets 255, and is unchanged

-- a refusal, 0 for none, and the block after the call
pub record Put : Type 0 where
  pub refusal : ℕ
  pub block : List ℕ

unfoldable pub put : List ℕ → List ℕ → Put
put bytes block =
    cond (ltb (length block) (length bytes))
    (record { refusal = 255; block = block })
    (record { refusal = 0; block = bytes ++ drop (length bytes) block })

-- a count that is handed out beside them
abbrev pub put_report : Put → ℕ → Report
put_report p n = cond (eqb p.refusal 0) (reporting (n ∷ [])) (refusing p.refusal 1)
