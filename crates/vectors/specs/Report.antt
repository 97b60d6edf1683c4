-- What a program that replays a list prints: for each kind a line, as `classes 1423 alike, 0 differ`; which case was the first that differs, if one does;
-- whether the list was read whole, and its checksum. Definitions only.
use Rattle.std.specs.Prelude.{cond, List, [], ◌∷◌, ◌++◌, ℕ, ◌+◌, ◌*◌, ◌%◌, eqb, length, slice_index_or, Option, Some, None}
use Rattle.texts.specs.Text.{bytes, one, decimal}
use Rattle.vectors.specs.Walk.{no_cases}
use Rattle.vectors.specs.declared.walk.Walk.{Walk}

-- a byte that ends a line
abbrev pub line_end : ℕ
line_end = 10

-- what stands behind the name of a kind
unfoldable pub kind_text : Walk → ℕ → List ℕ
kind_text w kind =
    (bytes " " ++ decimal (slice_index_or w.tallies kind no_cases).alike)
    ++ ((bytes " alike, " ++ decimal (slice_index_or w.tallies kind no_cases).differ) ++ (bytes " differ" ++ one line_end))

-- a byte of the kinds' names; at its line end, what stands behind the name of kind k
unfoldable pub name_byte : ℕ → Walk → ℕ → List ℕ
name_byte b w k = cond (eqb b line_end) (kind_text w k) (one b)

abbrev pub after_byte : ℕ → ℕ → ℕ
after_byte b k = k + cond (eqb b line_end) 1 0

-- the lines of kinds k, k + 1, .., whose names are given, each with its line end
unfoldable pub kind_lines : List ℕ → Walk → ℕ → List ℕ
kind_lines [] w k = []
kind_lines (b ∷ names) w k = name_byte b w k ++ kind_lines names w (after_byte b k)

abbrev pub first_text : ℕ → List ℕ
first_text n = (bytes "first that differs: case " ++ decimal n) ++ one line_end

-- which case was the first that differs, if one does
abbrev pub first_line : Option ℕ → List ℕ
first_line None = []
first_line (Some n) = first_text n

-- a sum of all bytes, by which a change of any one of them is seen
unfoldable pub checksum : ℕ → List ℕ → ℕ
checksum sum [] = sum
checksum sum (b ∷ list) = checksum ((257 * sum + b) % 4294967291) list

unfoldable pub end_line : List ℕ → Walk → List ℕ
end_line list w =
    (cond (eqb w.at (length list)) (bytes "list read whole, checksum ") (bytes "list ends early, checksum ") ++ decimal (checksum 0 list))
    ++ one line_end

abbrev pub reported : List ℕ → List ℕ → Walk → List ℕ
reported names list w = kind_lines names w 0 ++ (first_line w.first ++ end_line list w)
