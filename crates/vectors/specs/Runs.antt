-- Words in runs (docs/ORACLE.md, "Stored lists"): each run "half, how often (1 to 65,535), half, which word". Definitions only.
use Rattle.std.specs.Prelude.{Bool, cond, List, [], ◌++◌, ℕ, zero, suc, ◌+◌, ◌/◌, ◌%◌, eqb, leb, length, replicate, Option, Some, None}
use Rattle.std.proofs.lemmas.List.Edits.{sets}
use Rattle.vectors.specs.Reading.{half_at}

-- the words of the k runs from a place on
unfoldable pub spread : List ℕ → ℕ → ℕ → List ℕ
spread list at zero = []
spread list at (suc k) = replicate (half_at list at) (half_at list (at + 2)) ++ spread list (at + 4) k

-- the words of the runs that bytes are
abbrev pub words_of : List ℕ → List ℕ
words_of runs = spread runs 0 (length runs / 4)

-- bytes that are whole runs
abbrev pub are_runs : List ℕ → Bool
are_runs runs = eqb (length runs % 4) 0

-- how many there are, if a buffer has room for them
abbrev pub fitting : ℕ → ℕ → Option ℕ
fitting n room = cond (leb n room) (Some n) None

-- how many words they are; none where a buffer has no room for them, or the bytes are no runs
unfoldable pub how_many : List ℕ → List ℕ → Option ℕ
how_many runs out = cond (are_runs runs) (fitting (length (words_of runs)) (length out)) None

-- the buffer with them in its front, as far as there is room; as it was, where the bytes are no runs
unfoldable pub unpacked : List ℕ → List ℕ → List ℕ
unpacked runs out = cond (are_runs runs) (sets out 0 (words_of runs)) out
