-- Tables that are clean and tables that are not, a row each: what the call `clean` tells (the refusal, the rule that is broken, the state where), and
-- what its rules say (docs/RULES.md, "Clean"). The answer unfolds all that it computes with.
use Rattle.std.specs.Prelude.{List, [], ◌∷◌, ◌++◌, ℕ, replicate}
use Rattle.graph_rules.specs.Clean.{tied, error_at, zero_dead, zero_at, bytes_leaf, endless, end_at, breach}
use Rattle.clean.specs.Answers.{clean_of, clean_report}
use Rattle.cases.specs.Answers.{numbers, refusal_of, graph_of}
use Rattle.cases.specs.Table.{Case, case, by, all, k1, k4}

unfoldable pub clean_numbers : List ℕ → List ℕ
unfolding refusal_of graph_of tied error_at zero_dead zero_at bytes_leaf endless end_at breach clean_of
clean_numbers w = numbers (clean_report (clean_of w))

-- ---- table words

-- every byte leads to s, the end to e; no chain
abbrev pub split : ℕ → ℕ → List ℕ
split s e = replicate 256 s ++ e ∷ 0 ∷ []

-- four states and one leaf: the start, states 1 and 2, and state 3, which has the leaf
abbrev pub one_leaf : ℕ → List ℕ → List ℕ → List ℕ
one_leaf start one two = 4 ∷ start ∷ 1 ∷ 1 ∷ 2 ∷ 0 ∷ 0 ∷ (all 0 0 ++ (one ++ (two ++ (all 0 1 ++ 0 ∷ 0 ∷ []))))

-- four states and two leaves: state 1, the start; state 2 has leaf 0, state 3 leaf 1
abbrev pub two_leaves : List ℕ → List ℕ
two_leaves one = 4 ∷ 1 ∷ 2 ∷ 2 ∷ 2 ∷ 0 ∷ 0 ∷ 2 ∷ 0 ∷ 0 ∷ (all 0 0 ++ (one ++ (all 0 1 ++ (all 0 2 ++ 0 ∷ 0 ∷ 1 ∷ 0 ∷ []))))

-- four states and two leaves that tie in states 2 and 3: 1 if leaf 0 can match empty text, and state 1, the start
abbrev pub ties : ℕ → List ℕ → List ℕ
ties empty one = 4 ∷ 1 ∷ 2 ∷ 2 ∷ 7 ∷ 0 ∷ empty ∷ 7 ∷ 0 ∷ 0 ∷ (all 0 0 ++ (one ++ (all 0 2 ++ (all 0 2 ++ 1 ∷ 0 ∷ 0 ∷ 1 ∷ []))))

-- two states and no leaves: state 0 goes by `a` to state 1, the start
abbrev pub zero_goes : List ℕ → List ℕ
zero_goes one = 2 ∷ 1 ∷ 0 ∷ 0 ∷ (by 97 1 ++ one)

-- "all else to 0"
unfoldable pub zero_back : List ℕ
zero_back = zero_goes (all 0 0)

-- two states, of which state 0 has a leaf
unfoldable pub zero_leaf : List ℕ
zero_leaf = 2 ∷ 1 ∷ 1 ∷ 1 ∷ 2 ∷ 0 ∷ 0 ∷ (all 0 1 ++ (all 1 0 ++ 0 ∷ 0 ∷ []))

-- ---- the table

unfoldable pub cleanness : List Case
cleanness =
    -- K1 is clean; its first four words alone are refused
    case (clean_numbers k1) (0 ∷ 0 ∷ 0 ∷ [])
    ∷ case (clean_numbers (4 ∷ 1 ∷ 1 ∷ 1 ∷ [])) (3 ∷ 0 ∷ 0 ∷ [])
    -- rule 1: K4's tie in state 2; ties in states 2 and 3, of which 3 is reached, and neither
    ∷ case (clean_numbers k4) (0 ∷ 1 ∷ 2 ∷ [])
    ∷ case (clean_numbers (ties 0 (by 97 3))) (0 ∷ 1 ∷ 3 ∷ [])
    ∷ case (clean_numbers (ties 0 (all 0 0))) (0 ∷ 0 ∷ 0 ∷ [])
    -- a leaf that can match empty text, with a tie that is reached; no start
    ∷ case (clean_numbers (ties 1 (by 97 3))) (0 ∷ 1 ∷ 65535 ∷ [])
    ∷ case (clean_numbers (1 ∷ 65535 ∷ 0 ∷ 0 ∷ all 0 0)) (0 ∷ 1 ∷ 65535 ∷ [])
    -- rule 2: state 0 goes elsewhere, reached and not reached; state 0 has a leaf, and is not reached
    ∷ case (clean_numbers zero_back) (0 ∷ 2 ∷ 0 ∷ [])
    ∷ case (clean_numbers (zero_goes (all 1 0))) (0 ∷ 2 ∷ 0 ∷ [])
    ∷ case (clean_numbers zero_leaf) (0 ∷ 2 ∷ 0 ∷ [])
    -- rule 3: the bytes of state 1 lead to a leaf, and its end step to another leaf, to the same, or to state 0
    ∷ case (clean_numbers (two_leaves (split 2 3))) (0 ∷ 0 ∷ 0 ∷ [])
    ∷ case (clean_numbers (two_leaves (split 2 2))) (0 ∷ 0 ∷ 0 ∷ [])
    ∷ case (clean_numbers (two_leaves (split 2 0))) (0 ∷ 3 ∷ 1 ∷ [])
    -- state 2 breaks it and is not reached; states 1 and 2 break it, and 1 is not reached
    ∷ case (clean_numbers (one_leaf 1 (all 0 0) (split 3 0))) (0 ∷ 0 ∷ 0 ∷ [])
    ∷ case (clean_numbers (one_leaf 2 (split 3 0) (split 3 0))) (0 ∷ 3 ∷ 2 ∷ [])
    ∷ []
