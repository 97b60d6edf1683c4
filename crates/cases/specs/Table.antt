-- The cases K1 to K12, a row each: what the definitions answer, and what they should.
use Rattle.std.specs.Prelude.{Bool, true, false, List, [], ◌∷◌, ◌++◌, ℕ, ◌+◌, ◌*◌, replicate, take}
use Rattle.texts.specs.Text.{bytes}
use Rattle.classes.specs.Classes.{Class}
use Rattle.cases.specs.Answers.{cost_of, priority_numbers, refusal_of, graph_of, errors_of, rounds_of, printed_of, read_both, scanned}

pub record Case : Type 0 where
  pub got : List ℕ
  pub wanted : List ℕ

abbrev pub case : List ℕ → List ℕ → Case
case got wanted = record { got = got; wanted = wanted }

-- ---- table words

-- 258 words of a state: byte b leads to s, all else to 0; no chain
abbrev pub by : ℕ → ℕ → List ℕ
by b s = take 258 (replicate b 0 ++ s ∷ replicate 258 0)

-- every byte and the end lead to s; the chain from record h
abbrev pub all : ℕ → ℕ → List ℕ
all s h = replicate 257 s ++ h ∷ []

-- K1: "n 4, start 1, one leaf of priority 2; state 1 goes by `a` to 2; state 2 by every byte and end to 3; state 3 has leaf 0; all else to 0"
unfoldable pub k1 : List ℕ
k1 = 4 ∷ 1 ∷ 1 ∷ 1 ∷ 2 ∷ 0 ∷ 0 ∷ (all 0 0 ++ (by 97 2 ++ (all 3 0 ++ (all 0 1 ++ 0 ∷ 0 ∷ []))))

-- K4: state 1 goes by `a` to 2, where two leaves of priority 7 tie
unfoldable pub k4 : List ℕ
k4 = 3 ∷ 1 ∷ 2 ∷ 2 ∷ 7 ∷ 0 ∷ 0 ∷ 7 ∷ 0 ∷ 0 ∷ (all 0 0 ++ (by 97 2 ++ (all 0 2 ++ 1 ∷ 0 ∷ 0 ∷ 1 ∷ [])))

-- no universal start
abbrev pub startless : List ℕ
startless = 1 ∷ 65535 ∷ 0 ∷ 0 ∷ all 0 0

-- state 1 goes by `a` to 2 and by `b` to 3, state 2 by `c` to 4, state 3 by `c` to 5; states 4 and 5 have leaf 0. States 2 and 3 are equal once 4 and
-- 5 are merged.
unfoldable pub twice : List ℕ
twice =
    6 ∷ 1 ∷ 1 ∷ 1 ∷ 2 ∷ 0 ∷ 0 ∷ (all 0 0 ++ (replicate 97 0 ++ 2 ∷ 3 ∷ (replicate 159 0 ++ (by 99 4 ++ (by 99 5 ++ (all 0 1 ++ (all 0 1 ++ 0 ∷ 0 ∷ [])))))))

-- ---- classes

-- flags: `before` that are not set, then `size` that are
abbrev pub span : ℕ → ℕ → List Bool
span before size = replicate before false ++ replicate size true

abbrev pub rest : List Bool → Class
rest flags = take 256 (flags ++ replicate 256 false)

-- ---- patterns

-- a record's words: kind, a, b, flags, first child, next
abbrev pub words : ℕ → ℕ → ℕ → ℕ → ℕ → ℕ → List ℕ
words kind a b flags child next = kind ∷ a ∷ b ∷ flags ∷ child ∷ next ∷ []

-- ---- the table

unfoldable pub table : List Case
table =
    -- K1: the words are legal, the graph has two states, and the printer prints this
    case (refusal_of k1) (0 ∷ [])
    ∷ case (graph_of k1) (2 ∷ 0 ∷ (replicate 97 65535 ++ 1 ∷ (replicate 160 65535 ++ (replicate 257 65535 ++ (255 + 256 * 0) ∷ []))))
    ∷ case (printed_of k1) (bytes "  state0 => StateData() {\n    a => state1\n  }\n  state1 => StateData(early(0) ) {\n  }\n")
    -- "an empty line if there are no states", and "only a line as `refused 3`"
    ∷ case (printed_of startless) (bytes "\nerror 0\n")
    ∷ case (printed_of (4 ∷ 1 ∷ 1 ∷ 1 ∷ [])) (bytes "refused 3\n")
    -- K2: K1 on `ab`: leaf 0, end 1, by the table and by the graph
    ∷ case (read_both k1 (bytes "ab")) (0 ∷ 1 ∷ 0 ∷ 1 ∷ 0 ∷ 1 ∷ 0 ∷ 1 ∷ [])
    -- K3: its scan: token 0 to 1, gap 1 to 2, ended, then 16
    ∷ case (scanned 4 k1 (bytes "ab")) (0 ∷ 1 ∷ 0 ∷ 0 ∷ 1 ∷ 0 ∷ 2 ∷ 0 ∷ 1 ∷ 2 ∷ 0 ∷ 0 ∷ 0 ∷ 0 ∷ 0 ∷ 16 ∷ 0 ∷ 0 ∷ 0 ∷ 0 ∷ [])
    -- K4: two leaves tie: no accept, `error 2 0 1`
    ∷ case (refusal_of k4) (0 ∷ [])
    ∷ case (graph_of k4) (1 ∷ 0 ∷ replicate 258 65535)
    ∷ case (errors_of k4) (2 ∷ 2 ∷ 0 ∷ 1 ∷ [])
    ∷ case (printed_of k4) (bytes "  state0 => StateData() {\n  }\nerror 2 0 1\n")
    -- K5: 5 to 10 and 12 to 16: cost 3. K6: 0 to 255: 0. K7: byte 7 alone: 1. K8: all but 128: 1
    ∷ case (cost_of (rest (span 5 6 ++ span 1 5))) (3 ∷ [])
    ∷ case (cost_of (rest (span 0 256))) (0 ∷ [])
    ∷ case (cost_of (rest (span 7 1))) (1 ∷ [])
    ∷ case (cost_of (rest (span 0 128 ++ span 1 127))) (1 ∷ [])
    -- K9: literal C2 B0: 2. K10: E2 82: 4. K11: class, min 3: 6. K12: min 0: 0
    ∷ case (priority_numbers (words 1 0 2 0 0 0) (0xC2 ∷ 0xB0 ∷ [])) (0 ∷ 2 ∷ [])
    ∷ case (priority_numbers (words 1 0 2 0 0 0) (0xE2 ∷ 0x82 ∷ [])) (0 ∷ 4 ∷ [])
    ∷ case (priority_numbers (words 2 0 0 0 0 0 ++ words 4 3 0 0 1 0) []) (0 ∷ 6 ∷ [])
    ∷ case (priority_numbers (words 2 0 0 0 0 0 ++ words 4 0 0 0 1 0) []) (0 ∷ 0 ∷ [])
    ∷ []

-- ---- rounds of the merge (rule 8: "It stops after a round without a merge"), which no document counts: K1 merges nothing, a build without states has none

unfoldable pub merge_table : List Case
merge_table =
    case (rounds_of k1) (1 ∷ [])
    ∷ case (rounds_of startless) (0 ∷ [])
    ∷ case (rounds_of twice) (3 ∷ [])
    ∷ []
