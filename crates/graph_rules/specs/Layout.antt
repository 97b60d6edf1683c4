-- Sizes, special words and places in the words of a table and of a graph: each number of the two layouts stands here, once. Definitions only.
use Rattle.std.specs.Prelude.{ℕ, ◌+◌, ◌*◌, ◌-◌, ◌/◌, ◌%◌}

-- ---- of both

-- a state has a step for each byte, and one for the end of the text
abbrev pub end_step : ℕ
end_step = 256

abbrev pub step_count : ℕ
step_count = 257

-- the word that is no state's number: no target, no start
abbrev pub no_state : ℕ
no_state = 65535

abbrev pub most_states : ℕ
most_states = 1024

-- ---- graph words: the number of states, the root, then a row a state: its targets, and its marks

abbrev pub row_words : ℕ
row_words = 258

abbrev pub marks_place : ℕ
marks_place = 257

-- word c of state s
abbrev pub graph_place : ℕ → ℕ → ℕ
graph_place s c = 2 + row_words * s + c

-- how many words a graph of n states has
abbrev pub graph_size : ℕ → ℕ
graph_size n = 2 + row_words * n

-- the leaf that is none
abbrev pub no_leaf : ℕ
no_leaf = 255

-- the marks: the leaf that a state accepts, and its early leaf
abbrev pub marks_word : ℕ → ℕ → ℕ
marks_word accept early = accept + 256 * early

abbrev pub accept_in : ℕ → ℕ
accept_in marks = marks % 256

abbrev pub early_in : ℕ → ℕ
early_in marks = marks / 256

-- ---- table words: n states, the start, m leaves, r match records; then three words a leaf, a row a state: its targets, and the head of its match
-- chain; then two words a match record

abbrev pub table_row : ℕ
table_row = 258

abbrev pub head_place : ℕ
head_place = 257

abbrev pub most_leaves : ℕ
most_leaves = 255

abbrev pub most_matches : ℕ
most_matches = 4095

-- word c of leaf l
abbrev pub leaf_place : ℕ → ℕ → ℕ
leaf_place l c = 4 + 3 * l + c

-- word c of state s, of a table with m leaves
abbrev pub row_place : ℕ → ℕ → ℕ → ℕ
row_place m s c = 4 + 3 * m + table_row * s + c

-- word c of match record i, from 1, of a table with m leaves and n states
abbrev pub match_place : ℕ → ℕ → ℕ → ℕ → ℕ
match_place m n i c = 4 + 3 * m + table_row * n + 2 * (i - 1) + c

-- how many words a table of n states, m leaves and r match records has
abbrev pub table_length : ℕ → ℕ → ℕ → ℕ
table_length n m r = 4 + 3 * m + table_row * n + 2 * r
