-- Sizes, kinds and flags in the words of a pattern tree: each number of the layout stands here, once. Definitions only.
use Rattle.std.specs.Prelude.{ℕ, suc}

abbrev pub record_words : ℕ
record_words = 6

abbrev pub most_records : ℕ
most_records = 1024

-- the numbers of records, from 1, and 0, which names none
abbrev pub number_count : ℕ
number_count = suc most_records

-- ---- kinds

abbrev pub empty_kind : ℕ
empty_kind = 0

abbrev pub literal_kind : ℕ
literal_kind = 1

abbrev pub class_kind : ℕ
class_kind = 2

abbrev pub look_kind : ℕ
look_kind = 3

abbrev pub repetition_kind : ℕ
repetition_kind = 4

abbrev pub capture_kind : ℕ
capture_kind = 5

abbrev pub concat_kind : ℕ
concat_kind = 6

abbrev pub alternation_kind : ℕ
alternation_kind = 7

abbrev pub kind_count : ℕ
kind_count = 8

-- ---- flags: of a class, that it is one of the six of `DOT_HIRS`; of a repetition, that it is greedy, and that it is unbounded

abbrev pub dot_flag : ℕ
dot_flag = 1

abbrev pub greedy_flag : ℕ
greedy_flag = 1

abbrev pub unbounded_flag : ℕ
unbounded_flag = 2
