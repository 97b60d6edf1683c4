-- The text of a graph, as Rust's `Display` of `Graph`, `StateData`, `ByteClass` and `State` gives it, and the lines of the conflicts
-- (docs/FORMATS.md, "Text of a graph"). Definitions only.
use Rattle.std.specs.Prelude.{cond, ◌&&◌, ◌||◌, List, [], ◌∷◌, ◌++◌, map, ℕ, ◌+◌, ◌/◌, ◌%◌, eqb, leb, ltb, length, get_or, take, drop, Option, Some, None}
use Prim.Native.Char.{code}
use Rattle.lists.specs.Lists.{below}
use Rattle.texts.specs.Text.{bytes, one, decimal, joined}
use Rattle.graph_rules.specs.Graph.{State, Graph, state_of}
use Rattle.graph_rules.specs.Build.{Error, error_words}
use Rattle.classes.specs.Classes.{Class, ranges}
use Rattle.edges.specs.Edges.{class_to, targets}
use Rattle.graph_rules.specs.Layout.{end_step}

-- ---- a byte: "`escape_default` keeps bytes 32 to 126 but quotes and backslash, uses `\t \r \n \' \" \\`, else `\x` and two lower-case hex digits"

abbrev pub hex_digit : ℕ → ℕ
hex_digit d = cond (ltb d 10) (48 + d) (87 + d)

-- the letter after the backslash, of a byte that is written so
unfoldable pub letter_of : ℕ → Option ℕ
letter_of b =
    cond (eqb b (code "\t")) (Some (code "t"))
    (cond (eqb b (code "\r")) (Some (code "r"))
    (cond (eqb b (code "\n")) (Some (code "n"))
    (cond (eqb b (code "'") || (eqb b (code "\"") || eqb b (code "\\"))) (Some b) None)))

-- a byte that is written after a backslash, by its letter; and any other
abbrev pub escaped_by : Option ℕ → ℕ → List ℕ
escaped_by (Some letter) b = bytes "\\" ++ one letter
escaped_by None b = cond (leb 32 b && leb b 126) (one b) (bytes "\\x" ++ (hex_digit (b / 16) ∷ hex_digit (b % 16) ∷ []))

unfoldable pub escaped : ℕ → List ℕ
escaped b = escaped_by (letter_of b) b

-- ---- a class: its maximal ranges, a range of one byte as that byte

unfoldable pub range_text : ℕ → ℕ → List ℕ
range_text first last = cond (eqb first last) (escaped first) (escaped first ++ (bytes "..=" ++ escaped last))

unfoldable pub class_text : Class → List ℕ
class_text c = joined (bytes "|") (map (λ r. range_text r.first r.last) (ranges c))

-- ---- a state: its marks, each class and target, EOI; one line each

abbrev pub name_of : ℕ → List ℕ
name_of s = bytes "state" ++ decimal s

abbrev pub mark_text : List ℕ → Option ℕ → List ℕ
mark_text name None = []
mark_text name (Some leaf) = name ++ (decimal leaf ++ bytes ") ")

unfoldable pub first_line : ℕ → Option ℕ → Option ℕ → List ℕ
first_line s accept early =
    bytes "  " ++ (name_of s ++ (bytes " => StateData(" ++ (mark_text (bytes "accept(") accept ++ (mark_text (bytes "early(") early ++ bytes ") {"))))

unfoldable pub edge_line : Class → ℕ → List ℕ
edge_line c u = bytes "    " ++ (class_text c ++ (bytes " => " ++ name_of u))

-- one for each target
abbrev pub edge_lines : ℕ → State → List (List ℕ)
edge_lines n st = map (λ u. edge_line (class_to st u) u) (targets n st)

abbrev pub end_lines : Option ℕ → List (List ℕ)
end_lines None = []
end_lines (Some u) = (bytes "    EOI => " ++ name_of u) ∷ []

-- state s, in a graph of n states
unfoldable pub state_text : ℕ → ℕ → State → List ℕ
state_text n s st =
    joined (bytes "\n")
    (first_line s st.accept st.early ∷ (edge_lines n st ++ (end_lines (get_or st.steps end_step None) ++ (bytes "  }" ∷ []))))

-- ---- a graph: its states, ascending

unfoldable pub displayed : Graph → List ℕ
displayed g = let n = length g.states in joined (bytes "\n") (map (λ s. state_text n s (state_of g s)) (below n))

-- ---- a conflict: "one line an error, as `error 2 0 1` (kind, then leaves)", from its words: kind, leaf count, leaves

unfoldable pub line_of : List ℕ → List ℕ
line_of words = joined (bytes " ") (bytes "error" ∷ map decimal (get_or words 0 0 ∷ take (get_or words 1 0) (drop 2 words)))

unfoldable pub conflict_line : Error → List ℕ
conflict_line e = line_of (error_words e)
