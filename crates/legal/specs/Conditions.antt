-- A legal table, condition by condition, on the flat words (`Legal`): refusal 0 means just this, both ways (proofs/Legal). Beside it what the parts of the
-- check answer: the conditions 1 to 3 as facts (`Sized`). Definitions only.
use Rattle.std.specs.Prelude.{◌≡◌, List, ◌⊎◌, ℕ, ◌≤◌, ◌<◌, length, get_or}
use Rattle.graph_rules.specs.Layout.{step_count, no_state, most_states, head_place, most_leaves, most_matches, leaf_place, row_place, match_place, table_length}

-- ---- the words, by what they say

abbrev pub states : List ℕ → ℕ
states w = get_or w 0 0

abbrev pub leaves : List ℕ → ℕ
leaves w = get_or w 2 0

abbrev pub records : List ℕ → ℕ
records w = get_or w 3 0

-- 1 if leaf l can match empty text
abbrev pub empty_word : List ℕ → ℕ → ℕ
empty_word w l = get_or w (leaf_place l 2) 0

-- the target of state s for byte c, or for the end step, c = 256
abbrev pub target_word : List ℕ → ℕ → ℕ → ℕ
target_word w s c = get_or w (row_place (leaves w) s c) 0

abbrev pub head_word : List ℕ → ℕ → ℕ
head_word w s = get_or w (row_place (leaves w) s head_place) 0

-- of match record i, from 1
abbrev pub leaf_word : List ℕ → ℕ → ℕ
leaf_word w i = get_or w (match_place (leaves w) (states w) i 0) 0

abbrev pub next_word : List ℕ → ℕ → ℕ
next_word w i = get_or w (match_place (leaves w) (states w) i 1) 0

-- ---- a legal table

-- refusals 1 to 3
pub record Sized (w : List ℕ) : Type 0 where
  pub four : 4 ≤ length w
  pub some-state : 1 ≤ states w
  pub few-states : states w ≤ most_states
  pub few-leaves : leaves w ≤ most_leaves
  pub few-records : records w ≤ most_matches
  pub exact : length w ≡ table_length (states w) (leaves w) (records w)

-- "a record's leaf is below m, its next is below its own number, and the leaf at next is greater"
pub record RecordFits (w : List ℕ) (i : ℕ) : Type 0 where
  pub leaf-below : leaf_word w i < leaves w
  pub next-below : next_word w i < i
  pub ascending : (next_word w i ≡ 0) ⊎ (leaf_word w i < leaf_word w (next_word w i))

pub record Legal (w : List ℕ) : Type 0 where
  pub sized : Sized w
  pub start : (get_or w 1 0 < states w) ⊎ (get_or w 1 0 ≡ no_state)  -- 4
  pub empties : (l : ℕ) → l < leaves w → empty_word w l ≤ 1  -- 5
  pub targets : (s c : ℕ) → s < states w → c < step_count → target_word w s c < states w  -- 6
  pub heads : (s : ℕ) → s < states w → head_word w s ≤ records w  -- 7
  pub matches : (i : ℕ) → 0 < i → i ≤ records w → RecordFits w i  -- 7
