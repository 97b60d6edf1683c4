-- New names of states, and what a row becomes when states are renamed in place. Definitions only.
use Rattle.std.specs.Prelude.{◌≡◌, cond, List, ◌⊎◌, ℕ, ◌≤◌, ◌<◌, eqb, ltb, length, get_or, Option, Some, None, unwrap_or}
use Rattle.graph_rules.specs.Layout.{step_count, no_state, graph_place}
use Rattle.graph_rules.specs.Graph.{State}

-- a target word, renamed
abbrev pub renamed_word : List (Option ℕ) → ℕ → ℕ
renamed_word names u = cond (eqb u no_state) no_state (unwrap_or (get_or names u None) no_state)

-- word c of a row, renamed
abbrev pub new_word : List (Option ℕ) → ℕ → ℕ → ℕ
new_word names c u = cond (ltb c step_count) (renamed_word names u) u

-- every name is that of a state that stays, and so is the root's, if a state stays
pub record Fitting (names : List (Option ℕ)) (rest : List State) (root : ℕ) : Type 0 where
  pub below : (s i : ℕ) → get_or names s None ≡ Some i → i < length rest
  pub root_below : (unwrap_or (get_or names root None) 0 < length rest) ⊎ ((length rest ≡ 0) × (unwrap_or (get_or names root None) 0 ≡ 0))

-- the first c words of row s of v have become those of row k of w, renamed, and no other word has changed
pub record Moved (names : List (Option ℕ)) (s k c : ℕ) (v w : List ℕ) : Type 0 where
  pub len : length w ≡ length v
  pub words : (d : ℕ) → d < c → get_or w (graph_place k d) 0 ≡ new_word names d (get_or v (graph_place s d) 0)
  pub others : (i : ℕ) → (i < graph_place k 0) ⊎ (graph_place k c ≤ i) → get_or w i 0 ≡ get_or v i 0
